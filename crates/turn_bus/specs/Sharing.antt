-- What is known of the seats of a bus that cores share, whatever its steps are.
use Rattle.std.specs.Prelude.{◌≡◌, ◌≢◌, Bool, ℕ, ◌+◌, ◌<◌, ◌≤◌, List, [], ◌∷◌, length, slice_index_or}
use Rattle.pmsi_model.specs.Job.{JobValue, IsJob}
use Rattle.pmsi_model.specs.Shared.{BusSide}
use Rattle.pmsi_model.specs.Parts.{IsBusPart}

-- the bus of a job at the boundary of a slot, which keeps this
abbrev pub IsBusAt : JobValue → Bool → ℕ → BusSide → Type 0
IsBusAt job keeps turn b = IsBusPart job turn b × (b.keeps ≡ keeps)

-- the number isn't in the list
abbrev pub Absent : ℕ → List ℕ → Type 0
Absent x [] = Unit {0}
Absent x (y ∷ ys) = (x ≢ y) × Absent x ys

-- what a seat knows of its core and its bus. That of core 0 knows how many seats were made, and which are joined into it
pub record Knowing : Type 0 where
  pub job : JobValue
  pub keeps : Bool
  pub number : ℕ
  pub count : ℕ
  pub made : ℕ
  pub joined : List ℕ

-- what the seat of core 0 knows once one more seat is made
abbrev pub knows_more : Knowing → Knowing
knows_more k = record k { made = k.made + 1 }

-- what that new seat knows: it has the next number
abbrev pub knows_first : Knowing → Knowing
knows_first k = record { job = k.job; keeps = k.keeps; number = k.made; count = 0; made = 0; joined = [] }

-- what the seat of core 0 knows once another is joined into it
abbrev pub knows_joined : Knowing → Knowing → Knowing
knows_joined k other = record k { joined = other.number ∷ k.joined }

-- the seats of a bus: which are its own, and what each of them knows
pub record Seating (S : Type 0) : Type 1 where
  pub own : S → Type 0
  pub knows : S → Knowing

-- where seats stand: their job, what their bus keeps, the count that each is at, and how many were made
pub record Stage : Type 0 where
  pub job : JobValue
  pub keeps : Bool
  pub count : ℕ
  pub made : ℕ

abbrev pub stage : JobValue → Bool → ℕ → ℕ → Stage
stage job keeps count made = record { job = job; keeps = keeps; count = count; made = made }

-- the seat of core `c` of this bus
pub record IsSeat {S : Type 0} (bus : Seating S) (at : Stage) (c : ℕ) (seat : S) : Type 0 where
  pub own : bus.own seat
  pub job_is : (bus.knows seat).job ≡ at.job
  pub keeps_is : (bus.knows seat).keeps ≡ at.keeps
  pub number : (bus.knows seat).number ≡ c
  pub count_is : (bus.knows seat).count ≡ at.count
  pub made_is : c ≡ 0 → (bus.knows seat).made ≡ at.made

-- the seats of the cores in their order, none of them joined
pub record Seated {S : Type 0} (bus : Seating S) (at : Stage) (seats : List S) : Type 0 where
  pub order : (c : ℕ) (other : S) → c < length seats → IsSeat bus at c (slice_index_or seats c other)
  pub none_joined : (other : S) → (bus.knows (slice_index_or seats 0 other)).joined ≡ []

-- the seats of all cores of a job on this bus, one a core in core order, each at this count
pub record AllSeated {S : Type 0} (bus : Seating S) (job : JobValue) (keeps : Bool) (count : ℕ) (seats : List S) : Type 0 where
  pub within : IsJob job
  pub all : length seats ≡ job.shape.cores
  pub seated : Seated bus (stage job keeps count job.shape.cores) seats

-- all seats of this bus, each after the last slot
pub record AllAtEnd {S : Type 0} (bus : Seating S) (seats : List S) : Type 0 where
  pub job : JobValue
  pub keeps : Bool
  pub at_end : AllSeated bus job keeps job.shape.slots seats

-- ---- while seats are joined

-- the seats of the other cores in their order
abbrev pub OthersInOrder : {S : Type 0} → Seating S → Stage → List S → Type 0
OthersInOrder {S} bus at seats = (k : ℕ) (other : S) → k < length seats → IsSeat bus at (k + 1) (slice_index_or seats k other)

-- the seats from this number on were joined into that of core 0
abbrev pub AreJoined : ℕ → ℕ → Knowing → Type 0
AreJoined from made root = (number : ℕ) → from ≤ number → number < made → ¬ Absent number root.joined

-- the seat of core 0, and those that aren't joined into it yet
pub record AreLeft {S : Type 0} (bus : Seating S) (job : JobValue) (keeps : Bool) (root : S) (seats : List S) : Type 0 where
  pub long : length seats + 1 ≤ job.shape.cores
  pub first : IsSeat bus (stage job keeps job.shape.slots job.shape.cores) 0 root
  pub order : OthersInOrder bus (stage job keeps job.shape.slots job.shape.cores) seats
  pub joined : AreJoined (length seats + 1) job.shape.cores (bus.knows root)

-- what the seat of core 0 knows after the last slot, with all others joined into it
pub record HasAll (root : Knowing) : Type 0 where
  pub zero : root.number ≡ 0
  pub over : root.count ≡ root.job.shape.slots
  pub all_joined : (number : ℕ) → 0 < number → number < root.made → ¬ Absent number root.joined
