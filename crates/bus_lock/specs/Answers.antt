-- What a try to meet the bus tells, by what its seat knows before and after.
use Rattle.std.specs.Prelude.{◌≡◌, ◌≢◌, ◌⊎◌, ℕ, ◌+◌, ◌*◌}
use Rattle.pmsi_model.specs.declared.Action.{Action}
use Rattle.pmsi_model.specs.Job.{JobValue}
use Rattle.pmsi_model.specs.Slots.{plan_of, owner_of_slot}
use Rattle.pmsi_model.specs.Run.{record_at}
use Rattle.pmsi_model.specs.Spreads.{IsMeet, turn_after}
use Rattle.core_unit.specs.declared.state.State.{State}
use Rattle.core_unit.specs.Parts.{IsPart, IsPartAfter}
use Rattle.bus_lock.specs.declared.trying.Met.{Met}
use Rattle.bus_lock.specs.declared.trying.Met.TheVariants.{Done, NotYet, Held}
use Rattle.bus_lock.specs.declared.view.View.{View}

-- one `fetch_or` of the lock word found this word
pub record Found (word : ℕ) (v v' : View) : Type 0 where
  pub tries : v'.tries ≡ v.tries + 1
  pub word_is : v'.found ≡ word

-- one Meet of the machine: the lock was free, and the bus stood at this turn. The action is that of the core's slot, and
-- the core is the machine's at the next boundary
pub record HasMet (v v' : View) (action : Action) (core' : State) : Type 0 where
  pub turn : ℕ
  pub found : Found (2 * turn) v v'
  pub meet : IsMeet v.job v.number v.count turn v'.count (turn_after v.job v.number v.count turn)
  pub what : action ≡ record_at v.job v.count
  pub part : IsPart v.job (v.count + 1) v.number core'

-- the lock was free, and the bus stood at the core's slot, which another core owns. Nothing changed
pub record HasToWait (turn : ℕ) (v v' : View) (core core' : State) : Type 0 where
  pub found : Found (2 * turn) v v'
  pub here : turn ≡ v.count
  pub other : owner_of_slot (plan_of v.job) v.count ≢ v.number
  pub count : v'.count ≡ v.count
  pub core_is : core' ≡ core

-- the lock was held, while the bus stood at this turn. Nothing changed
pub record HasMissed (turn : ℕ) (v v' : View) (core core' : State) : Type 0 where
  pub found : Found (2 * turn + 1) v v'
  pub count : v'.count ≡ v.count
  pub core_is : core' ≡ core

abbrev pub Answers : View → View → State → State → Met → Type 0
Answers v v' core core' (Done action) = HasMet v v' action core'
Answers v v' core core' (NotYet turn) = HasToWait turn v v' core core'
Answers v v' core core' (Held turn) = HasMissed turn v v' core core'

-- the seat is the same core's
pub record SameSeat (v v' : View) : Type 0 where
  pub job : v'.job ≡ v.job
  pub keeps : v'.keeps ≡ v.keeps
  pub number : v'.number ≡ v.number
  pub made : v'.made ≡ v.made
  pub joined : v'.joined ≡ v.joined

-- a core in a slot of a job: its phase isn't done, or it is
abbrev pub IsIn : JobValue → ℕ → ℕ → State → Type 0
IsIn job slot c core = IsPart job slot c core ⊎ IsPartAfter job slot c core

-- a core and a seat are of one job, and have one number and one slot
abbrev pub StandsAt : View → State → Type 0
StandsAt v core = IsIn v.job v.count v.number core
