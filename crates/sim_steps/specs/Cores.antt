-- The cores of a Spread, one by one.
use Rattle.std.specs.Prelude.{◌≡◌, ℕ, ◌+◌, ◌<◌, ◌≤◌, Bool, true, false}
use Rattle.pmsi_model.specs.Job.{JobValue}
use Rattle.pmsi_model.specs.Parts.{IsBusPart}
use Rattle.pmsi_model.specs.Spreads.{Counts, goes_on, turn_after}
use Rattle.core_unit.specs.declared.state.State.{State}
use Rattle.core_unit.specs.Parts.{IsPart, IsPartAfter}
use Rattle.sim_steps.specs.declared.took.Took.{Took}
use Rattle.sim_steps.specs.declared.took.Took.TheVariants.{Done, NotYet, Again, Over}
use Rattle.sim_steps.specs.Meetings.{AreMeeting, Pair, standing}

-- a core is that of a job in a slot, and its phase is done or not
abbrev pub IsPartBy : JobValue → ℕ → ℕ → Bool → State → Type 0
IsPartBy job count c false v = IsPart job count c v
IsPartBy job count c true v = IsPartAfter job count c v

-- and it keeps no accesses
pub record IsAt (job : JobValue) (count c : ℕ) (marked : Bool) (v : State) : Type 0 where
  pub part : IsPartBy job count c marked v
  pub keeps : v.keeps ≡ false

-- ---- one core takes a step

-- its phase
abbrev pub IsPhaseStep : JobValue → ℕ → Counts → State → State → Took → Type 0
IsPhaseStep job c k v w Done = (k.count c < job.shape.slots) × (k.marked c ≡ false) × IsAt job (k.count c) c true w
IsPhaseStep job c k v w (NotYet turn) = ⊥
IsPhaseStep job c k v w Again = (k.count c < job.shape.slots) × (k.marked c ≡ true) × (w ≡ v)
IsPhaseStep job c k v w Over = (job.shape.slots ≤ k.count c) × (w ≡ v)

abbrev pub TakesPhase : State → State → Took → Type 0
TakesPhase v w result = (job : JobValue) (c : ℕ) (k : Counts) → IsAt job (k.count c) c (k.marked c) v → IsPhaseStep job c k v w result

-- a core in its slot, whose count fits the bus's turn where its phase is done
pub record AreTaking (job : JobValue) (c : ℕ) (k : Counts) (v : Pair) : Type 0 where
  pub at : IsAt job (k.count c) c (k.marked c) v.core
  pub meeting : k.marked c ≡ true → AreMeeting job (standing c (k.count c) k.turn) v

pub record CanTake (v : Pair) : Type 0 where
  pub job : JobValue
  pub core : ℕ
  pub counts : Counts
  pub at : AreTaking job core counts v

-- its meeting
abbrev pub IsMeetStep : JobValue → ℕ → Counts → Pair → Pair → Took → Type 0
IsMeetStep job c k v w Done =
    (k.count c < job.shape.slots) × (k.marked c ≡ true) × (goes_on job c (k.count c) k.turn ≡ true) × IsAt job (k.count c + 1) c false w.core
    × IsBusPart job (turn_after job c (k.count c) k.turn) w.bus × (w.bus.keeps ≡ v.bus.keeps)
IsMeetStep job c k v w (NotYet t) =
    (k.count c < job.shape.slots) × (k.marked c ≡ true) × (goes_on job c (k.count c) k.turn ≡ false) × (t ≡ k.turn) × (w.core ≡ v.core)
    × (w.bus ≡ v.bus)
IsMeetStep job c k v w Again = (k.count c < job.shape.slots) × (k.marked c ≡ false) × (w.core ≡ v.core) × (w.bus ≡ v.bus)
IsMeetStep job c k v w Over = (job.shape.slots ≤ k.count c) × (w.core ≡ v.core) × (w.bus ≡ v.bus)

abbrev pub TakesMeet : Pair → Pair → Took → Type 0
TakesMeet v w result = (job : JobValue) (c : ℕ) (k : Counts) → AreTaking job c k v → IsMeetStep job c k v w result
