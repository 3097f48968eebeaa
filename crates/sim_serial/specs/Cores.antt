-- The cores of a run, by their number, at a boundary and within a slot.
use Rattle.std.specs.Prelude.{◌≡◌, ◌≢◌, ℕ, ◌+◌, ◌<◌, ◌≤◌, List, Bool, length, slice_index_or}
use Rattle.pmsi_model.specs.declared.Action.{Action}
use Rattle.pmsi_model.specs.Job.{JobValue, IsJob}
use Rattle.pmsi_model.specs.Slots.{plan_of, owner_of_slot}
use Rattle.pmsi_model.specs.Run.{record_at}
use Rattle.pmsi_model.specs.Shared.{BusSide}
use Rattle.pmsi_model.specs.Parts.{IsBusPart}
use Rattle.core_unit.specs.declared.state.State.{State}
use Rattle.core_unit.specs.Parts.{IsPart, IsPartAfter}

-- each core is that of a job at the boundary of a slot
pub record AreParts (job : JobValue) (slot : ℕ) (cores : List State) : Type 0 where
  pub within : IsJob job
  pub count : length cores ≡ job.shape.cores
  pub parts : (c : ℕ) (other : State) → c < job.shape.cores → IsPart job slot c (slice_index_or cores c other)

-- the first `count` cores have done their phases of the slot
pub record AreInPhases (job : JobValue) (slot count : ℕ) (cores : List State) : Type 0 where
  pub within : IsJob job
  pub all : length cores ≡ job.shape.cores
  pub more : slot < job.shape.slots
  pub done : (c : ℕ) (other : State) → c < job.shape.cores → c < count → IsPartAfter job slot c (slice_index_or cores c other)
  pub left : (c : ℕ) (other : State) → c < job.shape.cores → count ≤ c → IsPart job slot c (slice_index_or cores c other)

-- all cores have
abbrev pub ArePhased : JobValue → ℕ → List State → Type 0
ArePhased job slot cores = AreInPhases job slot job.shape.cores cores

-- the owner of the slot has done this action, and of the others the first `count` have noted it
pub record AreInNotes (job : JobValue) (slot owner : ℕ) (action : Action) (count : ℕ) (cores : List State) : Type 0 where
  pub within : IsJob job
  pub all : length cores ≡ job.shape.cores
  pub by : owner ≡ owner_of_slot (plan_of job) slot
  pub what : action ≡ record_at job slot
  pub acted : (other : State) → IsPart job (slot + 1) owner (slice_index_or cores owner other)
  pub done : (c : ℕ) (other : State) → c < job.shape.cores → c < count → IsPart job (slot + 1) c (slice_index_or cores c other)
  pub left : (c : ℕ) (other : State) → c < job.shape.cores → count ≤ c → c ≢ owner → IsPartAfter job slot c (slice_index_or cores c other)

-- the cores and their bus are those of a job at the boundary of a slot
pub record AreWith (job : JobValue) (slot : ℕ) (cores : List State) (bus : BusSide) : Type 0 where
  pub parts : AreParts job slot cores
  pub side : IsBusPart job slot bus

-- each core keeps its accesses, or none does
abbrev pub CoresKeep : Bool → List State → Type 0
CoresKeep keeps cores = (c : ℕ) (other : State) → c < length cores → (slice_index_or cores c other).keeps ≡ keeps

-- ---- of some job

pub record CanTakeSlot (cores : List State) (bus : BusSide) : Type 0 where
  pub job : JobValue
  pub at : AreWith job bus.slot cores bus
  pub more : bus.slot < job.shape.slots

pub record CanDoPhases (cores : List State) : Type 0 where
  pub job : JobValue
  pub slot : ℕ
  pub parts : AreParts job slot cores
  pub more : slot < job.shape.slots

pub record CanNote (owner : ℕ) (action : Action) (cores : List State) : Type 0 where
  pub job : JobValue
  pub slot : ℕ
  pub acted : AreInNotes job slot owner action 0 cores
