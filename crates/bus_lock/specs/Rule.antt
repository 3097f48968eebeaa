-- The rule that holds between any two atomic steps, over the lock word, the bus, and what the seats know.
-- Word 0 is twice the slot at which the bus stands, its turn, plus 1 while a seat holds the lock.
use Rattle.std.specs.Prelude.{◌≡◌, ◌⊎◌, ℕ, ◌+◌, ◌*◌, ◌<◌, ◌≤◌, List, [], ◌∷◌, Bool, true, false, length, slice_index, Option, Some, None}
use mathlib.Core.Option.{some, none}
use lib.ListN.{get_elem?}
use Rattle.atomic_table.specs.Table.{State, Me, Step, rest}
use Rattle.pmsi_model.specs.declared.limits.TheConstants.{MAX_SLOTS}
use Rattle.pmsi_model.specs.Job.{JobValue, IsJob}
use Rattle.pmsi_model.specs.Shared.{BusSide}
use Rattle.pmsi_model.specs.Spreads.{Fits}
use Rattle.turn_bus.specs.Sharing.{IsBusAt, Absent, Knowing, HasAll}
use Rattle.bus_lock.specs.declared.about.About.{About}
use Rattle.bus_lock.specs.declared.view.View.{View}

-- what lies in the table's one slot: the bus, or nothing while a seat has it
abbrev pub Slot : Type 0
Slot = Option BusSide

abbrev pub Table : Type 0
Table = State Slot View

-- a seat's view, and what it has taken out of slots
abbrev pub Hand : Type 0
Hand = Me Slot View

-- the part of a view that the seats of every shared bus have
abbrev pub knowing : View → Knowing
knowing v = record { job = v.job; keeps = v.keeps; number = v.number; count = v.count; made = v.made; joined = v.joined }

-- ---- the rule

-- what holds of each seat that isn't spent, where the bus stands at this turn, so many seats were made, and these were joined
-- into that of core 0: its core fits the bus, and it is one of the seats that were made and not joined
pub record Knows (job : JobValue) (keeps : Bool) (turn made : ℕ) (joined : List ℕ) (v : View) : Type 0 where
  pub job_is : v.job ≡ job
  pub keeps_is : v.keeps ≡ keeps
  pub number : v.number < job.shape.cores
  pub fits : Fits job v.number v.count turn
  pub is_made : v.number < made
  pub is_left : Absent v.number joined
  pub counts : v.number ≡ 0 → (v.made ≡ made) × (v.joined ≡ joined)

abbrev pub bit : Bool → ℕ
bit true = 1
bit false = 0

-- the rule of the bus of a job, with its turn, the seats made and joined, and whether and by which seat the lock is held
pub record Kept (job : JobValue) (keeps : Bool) (s : Table) : Type 0 where
  pub turn : ℕ
  pub made : ℕ
  pub joined : List ℕ
  pub held : Bool
  pub holder : ℕ
  pub within : IsJob job
  pub one_word : length s.words ≡ 1
  pub one_slot : length s.homes ≡ 1
  pub turn_within : turn ≤ job.shape.slots
  pub word : slice_index s.words 0 ≡ 2 * turn + bit held
  -- while nobody holds the lock, the bus of the job lies in the slot, at its turn; else the slot is empty
  pub free : held ≡ false → (b : BusSide) × (get_elem? s.homes 0 ≡ some (some (Some b))) × IsBusAt job keeps turn b
  pub out : held ≡ true → get_elem? s.homes 0 ≡ some none
  -- each seat, and each core whose seat isn't made yet, fits the bus; no two seats are of one core
  pub each : (j : ℕ) (v : View) → get_elem? s.views j ≡ some v → v.spent ≡ false → Knows job keeps turn made joined v
  pub unmade : (c : ℕ) → made ≤ c → Fits job c 0 turn
  pub own : (j k : ℕ) (v w : View) → get_elem? s.views j ≡ some v → get_elem? s.views k ≡ some w → v.spent ≡ false → w.spent ≡ false →
      v.number ≡ w.number → j ≡ k
  -- one seat holds the lock where it is held, and it took it at this turn
  pub holds_one : (j : ℕ) (v : View) → get_elem? s.views j ≡ some v → v.holding ≡ true → (held ≡ true) × (j ≡ holder) × (v.at ≡ turn)
  pub held_by : held ≡ true → (v : View) × (get_elem? s.views holder ≡ some v) × (v.holding ≡ true) × (v.spent ≡ false)

abbrev pub holds : About → Table → Type 0
holds about s = Kept about.job about.keeps s

-- ---- views, before and after each kind of step

-- the seat of a core before its first slot
abbrev pub fresh_view : JobValue → Bool → ℕ → ℕ → View
fresh_view job keeps number made =
    record { job = job; keeps = keeps; number = number; count = 0; tries = 0; found = 0; holding = false; at = 0; made = made; joined = []; spent = false }

-- the first seat is that of core 0
abbrev pub first_of : About → View
first_of about = fresh_view about.job about.keeps 0 1

-- one more seat is made, and it has the next number
abbrev pub one_more : View → View
one_more v = record v { made = v.made + 1 }

abbrev pub new_seat : View → View
new_seat v = fresh_view v.job v.keeps v.made 0

abbrev pub with_joined : View → View → View
with_joined v w = record v { joined = w.number ∷ v.joined }

abbrev pub no_job : JobValue
no_job = record { shape = record { cores = 0; quantum = 0; line_words = 0; sets = 0; ways = 0; memory = 0; slots = 0 }; texts = []; start = [] }

-- what is left of a seat that was joined
abbrev pub spent_view : View
spent_view = record (fresh_view no_job false 0 0) { spent = true }

-- a try that found this word, with the lock held
abbrev pub missed : View → ℕ → View
missed v found = record v { tries = v.tries + 1; found = found }

-- a try that found the lock free at this turn
abbrev pub took : View → ℕ → View
took v turn = record v { tries = v.tries + 1; found = 2 * turn; holding = true; at = turn }

-- the lock is given up, with the core's slot over, or with nothing done
abbrev pub slot_over : View → View
slot_over v = record v { count = v.count + 1; holding = false }

abbrev pub declined : View → View
declined v = record v { holding = false }

-- ---- what the steps tell

-- the seat has the lock, and this bus comes out of the slot
pub record HasTaken (m : Hand) (found : ℕ) (m' : Hand) (turn : ℕ) (b : BusSide) : Type 0 where
  pub word : found ≡ 2 * turn
  pub hand : m' ≡ (took m.0 turn, (0, Some b) ∷ m.1)
  pub bus : IsBusAt m.0.job m.0.keeps turn b
  pub fits : Fits m.0.job m.0.number m.0.count turn

-- a try: the lock was held, or the seat has it
abbrev pub tried : Step Slot → Hand → ℕ → Hand → Type 0
tried st m found m' = (turn : ℕ) × (turn ≤ MAX_SLOTS)
    × (((found ≡ 2 * turn + 1) × (m' ≡ (missed m.0 found, m.1)))
    ⊎ ((b : BusSide) × HasTaken m found m' turn b))

-- the lock is given up
abbrev pub released : (View → View) → Step Slot → Hand → ℕ → Hand → Type 0
released after st m found m' = m' ≡ (after m.0, rest m.1)

-- ---- a seat's part of the table

-- it holds neither the lock nor the slot
abbrev pub Rests : Hand → Type 0
Rests m = (m.0.holding ≡ false) × (m.0.spent ≡ false) × (m.1 ≡ [])

-- it has the lock and the slot, out of which it took this bus
pub record Takes (m m' : Hand) (b : BusSide) : Type 0 where
  pub hand : m' ≡ (took m.0 b.slot, (0, None) ∷ [])
  pub bus : IsBusAt m.0.job m.0.keeps b.slot b
  pub fits : Fits m.0.job m.0.number m.0.count b.slot

-- it has them
abbrev pub IsHolding : Hand → Type 0
IsHolding m = (m.0.holding ≡ true) × (m.0.spent ≡ false) × (m.1 ≡ (0, None) ∷ [])

-- ---- the seat of core 0

-- before the first slot, with seats to make
pub record Opening (v : View) : Type 0 where
  pub zero : v.number ≡ 0
  pub none_joined : v.joined ≡ []
  pub room : v.made < v.job.shape.cores

-- after the last slot, with all other seats joined into it
abbrev pub Ending : View → Type 0
Ending v = HasAll (knowing v)
