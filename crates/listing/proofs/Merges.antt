-- What the cores have, slot by slot, is what the run has.
use Rattle.std.proofs.Common.{◌≡◌, ℕ, zero, suc, ◌+◌, ◌<◌, ◌≤◌, List, [], ◌∷◌, ◌++◌, All, length, Bool, true, false, ◌==◌, Option, Some, None, if◌then◌else◌, refl, ap, ◌∙◌, subst, arith, append-nil}
use Rattle.std.specs.List.{filter}
use Rattle.std.proofs.lemmas.List.Elements.{All-append}
use Rattle.pmsi_model.specs.declared.Access.{Access}
use Rattle.pmsi_model.specs.declared.Action.{Action}
use Rattle.pmsi_model.specs.declared.Action.TheVariants.{Idle, Post, Fill, PostFill, Back}
use Rattle.pmsi_model.specs.declared.Row.{Row}
use Rattle.pmsi_model.specs.declared.Touch.{Touch}
use Rattle.pmsi_model.specs.declared.Want.{Want}
use Rattle.pmsi_model.specs.declared.job.Geometry.{Geometry}
use Rattle.pmsi_model.specs.Job.{JobValue, text_of}
use Rattle.pmsi_model.specs.Machine.{Machine}
use Rattle.pmsi_model.specs.Phase.{Context, access_at, context_of, instruction_touches, instructions, phase_touches, phases, phases_touches, touch_list, touches_by}
use Rattle.pmsi_model.specs.Rows.{action_row, row_of, slot_rows}
use Rattle.pmsi_model.specs.Run.{action_touch, after_phases, machine_at, record_at, slot_owner, slot_touches, want_touch}
use Rattle.pmsi_model.proofs.Boundaries.{machine_at-slot, phases-slot}
use Rattle.coherence_laws.proofs.Exports.{touches_by-append, touches_own, touches_other, touches_above}
use Rattle.listing.specs.Rests.{rows_from, touches_from}
use Rattle.listing.proofs.Joins.{joined, joined_same, only_one, nothing}

-- ---- the slots of accesses and of fills

abbrev pub DoneAt : ℕ → List Touch → Type 0
DoneAt slot touches = All (λ touch. touch.slot ≡ slot) touches

none_at : (slot : ℕ) → DoneAt slot []
none_at slot = λ k d below. absurd (omega arith)

one_at : (slot : ℕ) (t : Touch) → t.slot ≡ slot → DoneAt slot (t ∷ [])
one_at slot t is zero d below = is
one_at slot t is (suc k) d below = absurd (omega arith)

listed_at : (slot c : ℕ) (access : Option Access) (memory : List ℕ) → DoneAt slot (touch_list slot c access memory)
listed_at slot c None memory = none_at slot
listed_at slot c (Some access) memory = one_at slot _ refl

instructions_at : (shape : Geometry) (slot c : ℕ) (text : List ℕ) (count : ℕ) (y : Context) → DoneAt slot (instruction_touches shape slot c text count y)
unfolding instruction_touches
instructions_at shape slot c text zero y = none_at slot
instructions_at shape slot c text (suc count) y = let z : Context = instructions shape slot text count y in
    All-append (λ touch. touch.slot ≡ slot) (instruction_touches shape slot c text count y) (touch_list slot c (access_at shape text z.core) z.memory)
    (instructions_at shape slot c text count y) (listed_at slot c (access_at shape text z.core) z.memory)

phase_at : (job : JobValue) (c : ℕ) (x : Machine) → DoneAt x.slot (phase_touches job c x)
unfolding phase_touches
phase_at job c x = instructions_at job.shape x.slot c (text_of job c) job.shape.quantum (context_of x c)

pub phases_at : (job : JobValue) (count : ℕ) (x : Machine) → DoneAt x.slot (phases_touches job count x)
unfolding phases_touches
phases_at job zero x = none_at x.slot
phases_at job (suc count) x = All-append (λ touch. touch.slot ≡ x.slot) (phases_touches job count x) (phase_touches job count (phases job count x))
    (phases_at job count x) (subst (λ (s : ℕ). DoneAt s (phase_touches job count (phases job count x))) (phases-slot job count x) (phase_at job count (phases job count x)))

wanted_at : (y : Machine) (c : ℕ) (want : Option Want) → DoneAt y.slot (want_touch y c want)
wanted_at y c None = none_at y.slot
wanted_at y c (Some want) = one_at y.slot _ refl

pub acted_at : (y : Machine) (c : ℕ) (action : Action) → DoneAt y.slot (action_touch y c action)
acted_at y c Idle = none_at y.slot
acted_at y c (Post name line) = none_at y.slot
acted_at y c (Fill line) = wanted_at y c (y.cores c).want
acted_at y c (PostFill name line) = wanted_at y c (y.cores c).want
acted_at y c (Back line kept) = none_at y.slot

-- ---- the request and the access of one action

abbrev pub FilledAt : ℕ → List Row → Type 0
FilledAt slot rows = All (λ row. row.fill ≡ slot) rows

no_row : (slot : ℕ) → FilledAt slot []
no_row slot = λ k d below. absurd (omega arith)

one_row : (slot : ℕ) (row : Row) → row.fill ≡ slot → FilledAt slot (row ∷ [])
one_row slot row is zero d below = is
one_row slot row is (suc k) d below = absurd (omega arith)

wanted_row : (slot c : ℕ) (want : Option Want) → FilledAt slot (row_of slot c want)
wanted_row slot c None = no_row slot
wanted_row slot c (Some want) = one_row slot _ refl

pub served_at : (y : Machine) (c : ℕ) (action : Action) → FilledAt y.slot (action_row y c action)
served_at y c Idle = no_row y.slot
served_at y c (Post name line) = no_row y.slot
served_at y c (Fill line) = wanted_row y.slot c (y.cores c).want
served_at y c (PostFill name line) = wanted_row y.slot c (y.cores c).want
served_at y c (Back line kept) = no_row y.slot

abbrev pub rows_by : ℕ → List Row → List Row
rows_by c rows = filter (λ row. row.core == c) rows

-- one core's part of the request and of the access that an action has
pub record ArePair (c : ℕ) (rows : List Row) (touches : List Touch) : Type 0 where
  pub one : length (rows_by c rows) ≤ 1
  pub same : length (touches_by c touches) ≡ length (rows_by c rows)

pair_by : {X Y : Type 0} (own : Bool) (x : X) (y : Y) → (length (if own then x ∷ [] else []) ≤ 1) × (length (if own then y ∷ [] else []) ≡ length (if own then x ∷ [] else []))
pair_by true x y = (omega arith, refl)
pair_by false x y = (omega arith, refl)

pair_none : (c : ℕ) → ArePair c [] []
pair_none c = record { one = omega arith; same = refl }

pair_wanted : (y : Machine) (o c : ℕ) (want : Option Want) → ArePair c (row_of y.slot o want) (want_touch y o want)
pair_wanted y o c None = pair_none c
pair_wanted y o c (Some want) = let both = pair_by (o == c) _ _ in record { one = both.0; same = both.1 }

pub pair_acted : (y : Machine) (o c : ℕ) (action : Action) → ArePair c (action_row y o action) (action_touch y o action)
pair_acted y o c Idle = pair_none c
pair_acted y o c (Post name line) = pair_none c
pair_acted y o c (Fill line) = pair_wanted y o c (y.cores o).want
pair_acted y o c (PostFill name line) = pair_wanted y o c (y.cores o).want
pair_acted y o c (Back line kept) = pair_none c

-- they are all of one core
rows_wanted : (slot o count : ℕ) (want : Option Want) → o < count → joined (λ c. rows_by c (row_of slot o want)) count ≡ row_of slot o want
rows_wanted slot o count None below = nothing (λ (row : Row). row.core) count
rows_wanted slot o count (Some want) below = only_one (λ (row : Row). row.core) _ count below

pub rows_joined : (y : Machine) (o count : ℕ) (action : Action) → o < count → joined (λ c. rows_by c (action_row y o action)) count ≡ action_row y o action
rows_joined y o count Idle below = nothing (λ (row : Row). row.core) count
rows_joined y o count (Post name line) below = nothing (λ (row : Row). row.core) count
rows_joined y o count (Fill line) below = rows_wanted y.slot o count (y.cores o).want below
rows_joined y o count (PostFill name line) below = rows_wanted y.slot o count (y.cores o).want below
rows_joined y o count (Back line kept) below = nothing (λ (row : Row). row.core) count

touch_wanted : (y : Machine) (o count : ℕ) (want : Option Want) → o < count → joined (λ c. touches_by c (want_touch y o want)) count ≡ want_touch y o want
touch_wanted y o count None below = nothing (λ (t : Touch). t.core) count
touch_wanted y o count (Some want) below = only_one (λ (t : Touch). t.core) _ count below

pub touch_joined : (y : Machine) (o count : ℕ) (action : Action) → o < count → joined (λ c. touches_by c (action_touch y o action)) count ≡ action_touch y o action
touch_joined y o count Idle below = nothing (λ (t : Touch). t.core) count
touch_joined y o count (Post name line) below = nothing (λ (t : Touch). t.core) count
touch_joined y o count (Fill line) below = touch_wanted y o count (y.cores o).want below
touch_joined y o count (PostFill name line) below = touch_wanted y o count (y.cores o).want below
touch_joined y o count (Back line kept) below = nothing (λ (t : Touch). t.core) count

-- ---- the accesses of the phases, core by core

pub phases_joined : (job : JobValue) (x : Machine) (count : ℕ) → joined (λ c. touches_by c (phases_touches job count x)) count ≡ phases_touches job count x
unfolding phases_touches
phases_joined job x zero = refl
phases_joined job x (suc count) =
    let before : List Touch = phases_touches job count x in
    let last : List Touch = phase_touches job count (phases job count x) in
    let below : joined (λ c. touches_by c (before ++ last)) count ≡ before =
    joined_same (λ c. touches_by c (before ++ last)) (λ c. touches_by c before) count
    (λ c less. touches_by-append c before last ∙ ap (λ (ts : List Touch). touches_by c before ++ ts) (touches_other job count c (phases job count x) (omega arith))
    ∙ append-nil (touches_by c before)) ∙ phases_joined job x count in
    let own : touches_by count (before ++ last) ≡ last =
    touches_by-append count before last ∙ ap (λ (ts : List Touch). ts ++ touches_by count last) (touches_above job x count count (omega arith))
    ∙ touches_own job count (phases job count x) in
    ap (λ (ts : List Touch). ts ++ touches_by count (before ++ last)) below ∙ ap (λ (ts : List Touch). before ++ ts) own

-- ---- later slots

row_soon : (slot : ℕ) (rows : List Row) → FilledAt slot rows → All (λ row. slot ≤ row.fill) rows
row_soon slot rows all = λ k d below. (let is = all k d below in omega arith)

pub rows_later : (job : JobValue) (slot count : ℕ) → All (λ row. slot ≤ row.fill) (rows_from job slot count)
unfolding rows_from
rows_later job slot zero = λ k d below. absurd (omega arith)
rows_later job slot (suc count) = let rows : List Row = slot_rows job (machine_at job slot) (record_at job slot) in
    let more : List Row = rows_from job (slot + 1) count in
    All-append (λ row. slot ≤ row.fill) rows more
    (row_soon slot rows (subst (λ (s : ℕ). FilledAt s rows) (phases-slot job job.shape.cores (machine_at job slot) ∙ machine_at-slot job slot)
    (served_at (after_phases job (machine_at job slot)) (slot_owner job (machine_at job slot)) (record_at job slot))))
    (λ k d below. (let later = rows_later job (slot + 1) count k d below in omega arith))

slot_done_at : (job : JobValue) (slot : ℕ) → DoneAt slot (slot_touches job (machine_at job slot))
slot_done_at job slot = let x : Machine = machine_at job slot in
    All-append (λ touch. touch.slot ≡ slot) (phases_touches job job.shape.cores x) (action_touch (after_phases job x) (slot_owner job x) (record_at job slot))
    (subst (λ (s : ℕ). DoneAt s (phases_touches job job.shape.cores x)) (machine_at-slot job slot) (phases_at job job.shape.cores x))
    (subst (λ (s : ℕ). DoneAt s (action_touch (after_phases job x) (slot_owner job x) (record_at job slot))) (phases-slot job job.shape.cores x ∙ machine_at-slot job slot)
    (acted_at (after_phases job x) (slot_owner job x) (record_at job slot)))

pub touches_later : (job : JobValue) (slot count : ℕ) → All (λ touch. slot ≤ touch.slot) (touches_from job slot count)
unfolding touches_from
touches_later job slot zero = λ k d below. absurd (omega arith)
touches_later job slot (suc count) =
    All-append (λ touch. slot ≤ touch.slot) (slot_touches job (machine_at job slot)) (touches_from job (slot + 1) count)
    (λ k d below. (let is = slot_done_at job slot k d below in omega arith))
    (λ k d below. (let later = touches_later job (slot + 1) count k d below in omega arith))
