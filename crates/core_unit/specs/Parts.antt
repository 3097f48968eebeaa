-- What a core has of a run: at the boundary of a slot, and once its phase is done.
use Rattle.std.specs.Prelude.{◌≡◌, ◌≢◌, ◌⊎◌, ℕ, ◌+◌, ◌*◌, ◌<◌, ◌≤◌, ◌==◌, List, [], ◌++◌, length, true, false, Option, Some, None, if◌then◌else◌}
use Rattle.std.specs.List.{filter}
use Rattle.pmsi_model.specs.declared.Action.{Action}
use Rattle.pmsi_model.specs.declared.Touch.{Touch}
use Rattle.pmsi_model.specs.declared.Want.{Want}
use Rattle.pmsi_model.specs.Job.{JobValue}
use Rattle.pmsi_model.specs.Slots.{plan_of, own_slots, owner_of_slot}
use Rattle.pmsi_model.specs.Machine.{Request}
use Rattle.pmsi_model.specs.Phase.{Context, context_of, phase, phase_touches}
use Rattle.pmsi_model.specs.Rows.{rows_of}
use Rattle.pmsi_model.specs.Run.{machine_at, record_at, touches_of}
use Rattle.pmsi_model.specs.Shared.{BusSide}
use Rattle.pmsi_model.specs.Parts.{IsBusPart}
use Rattle.core_unit.specs.declared.state.State.{State}
use Rattle.core_unit.specs.Stands.{KnowsStates, StandsFor}

-- a core's rows so far, with room for those to come: it fills in own slots alone
pub record HasRows (job : JobValue) (slot c : ℕ) (v : State) : Type 0 where
  pub rows : v.rows.items ≡ filter (λ row. row.core == c) (rows_of job slot)
  pub few : length v.rows.items ≤ own_slots (plan_of job) c slot
  pub room : own_slots (plan_of job) c job.shape.slots ≤ v.rows.room

-- a core's accesses in the first slots
abbrev pub own_touches : JobValue → ℕ → ℕ → List Touch
own_touches job slot c = filter (λ touch. touch.core == c) (touches_of job slot)

-- 1 where a want stands
abbrev pub standing : Option Want → ℕ
standing None = 0
standing (Some want) = 1

-- these are a core's accesses so far, where they are kept, with room for those to come. Each instruction was one of `most`
-- that the core could take, also one that waits for its line
pub record HasTouches (job : JobValue) (so_far : List Touch) (most : ℕ) (v : State) : Type 0 where
  pub touches : v.touches.items ≡ (if v.keeps then so_far else [])
  pub few : length v.touches.items ≤ v.retired
  pub room : v.keeps ≡ true → job.shape.slots * job.shape.quantum ≤ v.touches.room
  pub retired : v.retired + standing v.pending.want ≤ most

-- a core in a slot, as it stands in a context with these requests
pub record IsInSlot (job : JobValue) (slot c : ℕ) (y : Context) (posted : List Request) (v : State) : Type 0 where
  pub stands : StandsFor job c y v
  pub knows : KnowsStates posted c v
  pub now : v.slot ≡ slot
  pub within : slot ≤ job.shape.slots
  pub rows : HasRows job slot c v

-- a core is that of a job at the boundary of a slot
pub record IsPart (job : JobValue) (slot c : ℕ) (v : State) : Type 0 where
  pub in_slot : IsInSlot job slot c (context_of (machine_at job slot) c) (machine_at job slot).posted v
  pub fresh : v.phase_done ≡ false
  pub touches : HasTouches job (own_touches job slot c) (slot * job.shape.quantum) v

-- a core is that of a job with its phase of a slot done
pub record IsPartAfter (job : JobValue) (slot c : ℕ) (v : State) : Type 0 where
  pub in_slot : IsInSlot job slot c (context_of (phase job c (machine_at job slot)) c) (machine_at job slot).posted v
  pub done : v.phase_done ≡ true
  pub more : slot < job.shape.slots
  pub touches : HasTouches job (own_touches job slot c ++ phase_touches job c (machine_at job slot)) ((slot + 1) * job.shape.quantum) v

-- a core is that of some job, at the boundary of a slot or with its phase done
pub record IsCore (v : State) : Type 0 where
  pub job : JobValue
  pub slot : ℕ
  pub core : ℕ
  pub part : IsPart job slot core v ⊎ IsPartAfter job slot core v

-- a core can do its phase: it is that of some job, with a slot to go
pub record CanPhase (v : State) : Type 0 where
  pub job : JobValue
  pub core : ℕ
  pub part : IsPart job v.slot core v
  pub more : v.slot < job.shape.slots

-- a core owns the slot, and its bus is that of the same job
pub record CanAct (v : State) (b : BusSide) : Type 0 where
  pub job : JobValue
  pub core : ℕ
  pub part : IsPartAfter job v.slot core v
  pub bus : IsBusPart job v.slot b
  pub own : owner_of_slot (plan_of job) v.slot ≡ core

-- a core snoops the action of the slot's owner, which is another core
pub record CanSnoop (by : ℕ) (action : Action) (v : State) : Type 0 where
  pub job : JobValue
  pub core : ℕ
  pub part : IsPartAfter job v.slot core v
  pub owner : owner_of_slot (plan_of job) v.slot ≡ by
  pub other : by ≢ core
  pub what : action ≡ record_at job v.slot
