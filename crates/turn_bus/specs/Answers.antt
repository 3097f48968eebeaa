-- What a meeting with the bus tells, by what its seat knows before and after.
use Rattle.std.specs.Prelude.{◌≡◌, ◌⊎◌, ℕ, ◌+◌, ◌<◌}
use Rattle.pmsi_model.specs.declared.Action.{Action}
use Rattle.pmsi_model.specs.Job.{JobValue}
use Rattle.pmsi_model.specs.Slots.{plan_of, owner_of_slot}
use Rattle.pmsi_model.specs.Run.{record_at}
use Rattle.pmsi_model.specs.Spreads.{IsMeet, turn_after}
use Rattle.core_unit.specs.declared.state.State.{State}
use Rattle.core_unit.specs.Parts.{IsPart, IsPartAfter}
use Rattle.turn_bus.specs.declared.polling.Poll.{Poll}
use Rattle.turn_bus.specs.declared.polling.Poll.TheVariants.{Seen, NotYet}
use Rattle.turn_bus.specs.declared.view.View.{View}

-- one load of the turn word found this turn
pub record Found (turn : ℕ) (v v' : View) : Type 0 where
  pub loads : v'.loads ≡ v.loads + 1
  pub seen : v'.seen ≡ turn

-- the slot of the seat's core is its own
abbrev pub OwnsSlot : View → Type 0
OwnsSlot v = owner_of_slot (plan_of v.job) v.count ≡ v.number

-- a seat can look at the bus while another core owns its core's slot
pub record CanPoll (v : View) : Type 0 where
  pub more : v.count < v.job.shape.slots
  pub other : ¬ OwnsSlot v

-- the bus had passed the core's slot: its owner, and its action. The core that snoops it has met the bus
pub record HasSeen (v v' : View) (by : ℕ) (action : Action) : Type 0 where
  pub turn : ℕ
  pub found : Found turn v v'
  pub meet : IsMeet v.job v.number v.count turn v'.count (turn_after v.job v.number v.count turn)
  pub owner : by ≡ owner_of_slot (plan_of v.job) v.count
  pub what : action ≡ record_at v.job v.count

-- the bus stood at the core's slot, so its owner hasn't acted
pub record HasToWait (turn : ℕ) (v v' : View) : Type 0 where
  pub found : Found turn v v'
  pub here : turn ≡ v.count
  pub count : v'.count ≡ v.count

abbrev pub Answers : View → View → Poll → Type 0
Answers v v' (Seen by action) = HasSeen v v' by action
Answers v v' (NotYet turn) = HasToWait turn v v'

-- the bus stood at the core's own slot. The action is that of the slot, and the core is the machine's at the next boundary
pub record HasActed (v v' : View) (action : Action) (core' : State) : Type 0 where
  pub found : Found v.count v v'
  pub meet : IsMeet v.job v.number v.count v.count v'.count (turn_after v.job v.number v.count v.count)
  pub what : action ≡ record_at v.job v.count
  pub part : IsPart v.job (v.count + 1) v.number core'

-- the seat is the same core's
pub record SameSeat (v v' : View) : Type 0 where
  pub job : v'.job ≡ v.job
  pub keeps : v'.keeps ≡ v.keeps
  pub number : v'.number ≡ v.number
  pub made : v'.made ≡ v.made
  pub joined : v'.joined ≡ v.joined

-- a core in a slot of a job: its phase isn't done, or it is
abbrev pub IsIn : JobValue → ℕ → ℕ → State → Type 0
IsIn job slot c core = IsPart job slot c core ⊎ IsPartAfter job slot c core

-- a core and a seat are of one job, and have one number and one slot
abbrev pub StandsAt : View → State → Type 0
StandsAt v core = IsIn v.job v.count v.number core

-- and the core's phase of this slot is done
abbrev pub IsReady : View → State → Type 0
IsReady v core = IsPartAfter v.job v.count v.number core
