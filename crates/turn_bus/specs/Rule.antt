-- The rule that holds between any two atomic steps, over the turn, the records, the bus, and what the seats know.
-- Word 0 is the turn, the slot at which the bus stands. The other words are a ring as long as the plan's greatest gap: the
-- record of a slot is stored in one of them, as a number.
use Rattle.std.specs.Prelude.{◌≡◌, ℕ, ◌+◌, ◌%◌, ◌<◌, ◌≤◌, List, [], ◌∷◌, Bool, true, false, length, slice_index, Option, Some, None, Box}
use Rattle.std.specs.declared.alloc.Global.{Global}
use mathlib.Core.Option.{some}
use lib.ListN.{get_elem?}
use Rattle.atomic_table.specs.Table.{State, Me, Step, rest}
use Rattle.pmsi_model.specs.Job.{JobValue, IsJob}
use Rattle.pmsi_model.specs.Slots.{SlotPlan, plan_of, owner_of_slot, gap_of}
use Rattle.pmsi_model.specs.Run.{record_at}
use Rattle.pmsi_model.specs.Shared.{BusSide}
use Rattle.pmsi_model.specs.Spreads.{Fits}
use Rattle.turn_bus.specs.Sharing.{IsBusAt, Absent, Knowing, HasAll}
use Rattle.turn_bus.specs.declared.about.About.{About}
use Rattle.turn_bus.specs.declared.view.View.{View}
use Rattle.turn_bus.specs.ActionNumbers.{IsNumberOf}

-- a bus, by its pointer
abbrev pub BusBox : Type 0
BusBox = Box BusSide Global

-- what lies in the table's one slot: the bus, or nothing while a seat has it
abbrev pub Slot : Type 0
Slot = Option BusBox

abbrev pub Table : Type 0
Table = State Slot View

-- a seat's view, and what it has taken out of slots
abbrev pub Hand : Type 0
Hand = Me Slot View

-- the word of the record of a slot
abbrev pub word_of_slot : SlotPlan → ℕ → ℕ
word_of_slot plan slot = 1 + slot % gap_of plan

-- the record of a slot stands in its word
abbrev pub IsStored : JobValue → ℕ → List ℕ → Type 0
IsStored job slot words = IsNumberOf (slice_index words (word_of_slot (plan_of job) slot)) (record_at job slot)

-- the part of a view that the seats of every shared bus have
abbrev pub knowing : View → Knowing
knowing v = record { job = v.job; keeps = v.keeps; number = v.number; count = v.count; made = v.made; joined = v.joined }

-- ---- the rule

-- what holds of each seat that isn't spent, where the bus stands at this turn, so many seats were made, and these were joined
-- into that of core 0: its core fits the bus, it has seen no later turn, and it is one of the seats that were made and not
-- joined
pub record Knows (job : JobValue) (keeps : Bool) (turn made : ℕ) (joined : List ℕ) (v : View) : Type 0 where
  pub job_is : v.job ≡ job
  pub keeps_is : v.keeps ≡ keeps
  pub number : v.number < job.shape.cores
  pub fits : Fits job v.number v.count turn
  pub seen : v.seen ≤ turn
  pub is_made : v.number < made
  pub is_left : Absent v.number joined
  pub counts : v.number ≡ 0 → (v.made ≡ made) × (v.joined ≡ joined)

-- the seat that has the bus: its core owns the slot of the turn, and where it has stored the record, that stands in its word
pub record Holds (job : JobValue) (turn : ℕ) (words : List ℕ) (v : View) : Type 0 where
  pub here : v.count ≡ turn
  pub own : owner_of_slot (plan_of job) turn ≡ v.number
  pub more : turn < job.shape.slots
  pub record_is : v.stored ≡ true → IsStored job turn words

-- the rule of the bus of a job, with its turn, the seats made and joined, and whether and which seat has the bus
pub record Kept (job : JobValue) (keeps : Bool) (s : Table) : Type 0 where
  pub turn : ℕ
  pub made : ℕ
  pub joined : List ℕ
  pub held : Bool
  pub holder : ℕ
  pub within : IsJob job
  pub ring : length s.words ≡ gap_of (plan_of job) + 1
  pub one_slot : length s.homes ≡ 1
  pub turn_within : turn ≤ job.shape.slots
  pub word : slice_index s.words 0 ≡ turn
  -- the records of the last slots, one slot fewer than the ring is long: the word of the slot of the turn is being written
  pub records : (j : ℕ) → j < turn → turn < j + gap_of (plan_of job) → IsStored job j s.words
  -- while no seat has it, the bus of the job lies in the slot, at its turn
  pub free : held ≡ false → (b : BusBox) × (get_elem? s.homes 0 ≡ some (some (Some b))) × IsBusAt job keeps turn b.value
  -- each seat, and each core whose seat isn't made yet, fits the bus; no two seats are of one core
  pub each : (j : ℕ) (v : View) → get_elem? s.views j ≡ some v → v.spent ≡ false → Knows job keeps turn made joined v
  pub unmade : (c : ℕ) → made ≤ c → Fits job c 0 turn
  pub own : (j k : ℕ) (v w : View) → get_elem? s.views j ≡ some v → get_elem? s.views k ≡ some w → v.spent ≡ false → w.spent ≡ false →
      v.number ≡ w.number → j ≡ k
  -- one seat at most has the bus, and it is that of the owner of the turn's slot
  pub holds_one : (j : ℕ) (v : View) → get_elem? s.views j ≡ some v → v.holding ≡ true → (held ≡ true) × (j ≡ holder) × Holds job turn s.words v
  pub held_by : held ≡ true → (v : View) × (get_elem? s.views holder ≡ some v) × (v.holding ≡ true) × (v.spent ≡ false)

abbrev pub holds : About → Table → Type 0
holds about s = Kept about.job about.keeps s

-- ---- views, before and after each kind of step

-- the seat of a core before its first slot
abbrev pub fresh_view : JobValue → Bool → ℕ → ℕ → View
fresh_view job keeps number made = record {
  job = job;
  keeps = keeps;
  number = number;
  count = 0;
  loads = 0;
  seen = 0;
  holding = false;
  stored = false;
  made = made;
  joined = [];
  spent = false;
}

-- the first seat is that of core 0
abbrev pub first_of : About → View
first_of about = fresh_view about.job about.keeps 0 1

-- one more seat is made, and it has the next number
abbrev pub one_more : View → View
one_more v = record v { made = v.made + 1 }

abbrev pub new_seat : View → View
new_seat v = fresh_view v.job v.keeps v.made 0

abbrev pub with_joined : View → View → View
with_joined v w = record v { joined = w.number ∷ v.joined }

abbrev pub no_job : JobValue
no_job = record { shape = record { cores = 0; quantum = 0; line_words = 0; sets = 0; ways = 0; memory = 0; slots = 0 }; texts = []; start = [] }

-- what is left of a seat that was joined
abbrev pub spent_view : View
spent_view = record (fresh_view no_job false 0 0) { spent = true }

-- a load gave this turn
abbrev pub has_loaded : View → ℕ → View
has_loaded v turn = record v { loads = v.loads + 1; seen = turn }

-- the record of the seat's slot was loaded, and the slot is over
abbrev pub has_noted : View → View
has_noted v = record v { count = v.count + 1 }

-- a load of the turn at an own slot: the seat has the bus
abbrev pub has_bus : View → View
has_bus v = record (has_loaded v v.count) { holding = true }

abbrev pub has_stored : View → View
has_stored v = record v { stored = true }

-- the turn went on, and the slot is over
abbrev pub has_acted : View → View
has_acted v = record v { count = v.count + 1; holding = false; stored = false }

-- ---- what the steps tell

-- the turn, which the seat's core fits
abbrev pub looked : Step Slot → Hand → ℕ → Hand → Type 0
looked st m found m' = (m' ≡ (has_loaded m.0 found, m.1)) × (found ≤ m.0.job.shape.slots) × Fits m.0.job m.0.number m.0.count found

-- the record of the seat's slot
abbrev pub noted : Step Slot → Hand → ℕ → Hand → Type 0
noted st m found m' = (m' ≡ (has_noted m.0, m.1)) × IsNumberOf found (record_at m.0.job m.0.count)

-- the bus, at the seat's slot
abbrev pub taken : Step Slot → Hand → ℕ → Hand → Type 0
taken st m found m' = (b : BusBox) × (m' ≡ (has_bus m.0, (0, Some b) ∷ m.1)) × IsBusAt m.0.job m.0.keeps m.0.count b.value

abbrev pub stores : Step Slot → Hand → ℕ → Hand → Type 0
stores st m found m' = m' ≡ (has_stored m.0, m.1)

abbrev pub acted : Step Slot → Hand → ℕ → Hand → Type 0
acted st m found m' = m' ≡ (has_acted m.0, rest m.1)

-- ---- a seat's part of the table

-- it doesn't have the bus, and nothing out of the slot
pub record Rests (m : Hand) : Type 0 where
  pub idle : m.0.holding ≡ false
  pub unstored : m.0.stored ≡ false
  pub live : m.0.spent ≡ false
  pub empty : m.1 ≡ []

-- it has the bus, which it took out of the slot
pub record IsHolding (m : Hand) : Type 0 where
  pub holding : m.0.holding ≡ true
  pub live : m.0.spent ≡ false
  pub carries : m.1 ≡ (0, None) ∷ []

-- ---- the seat of core 0

-- before the first slot, with seats to make
pub record Opening (v : View) : Type 0 where
  pub zero : v.number ≡ 0
  pub none_joined : v.joined ≡ []
  pub room : v.made < v.job.shape.cores

-- after the last slot, with all other seats joined into it
abbrev pub Ending : View → Type 0
Ending v = HasAll (knowing v)
