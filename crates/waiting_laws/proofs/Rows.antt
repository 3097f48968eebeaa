-- Each completed request waited at most the bound, and each open one is younger.
use Rattle.std.proofs.Common.{◌≡◌, ℕ, zero, suc, ◌<◌, ◌≤◌, [], Option, Some, None, is_some, refl, sym, subst, arith}
use Rattle.std.specs.List.{All}
use Rattle.std.proofs.lemmas.List.Elements.{All-nil, All-cons, All-append}
use Rattle.pmsi_model.specs.declared.Action.{Action}
use Rattle.pmsi_model.specs.declared.Action.TheVariants.{Idle, Post, Fill, PostFill, Back}
use Rattle.pmsi_model.specs.declared.Want.{Want}
use Rattle.pmsi_model.specs.declared.Row.{Row}
use Rattle.pmsi_model.specs.declared.OpenRow.{OpenRow}
use Rattle.pmsi_model.specs.Job.{JobValue, IsJob}
use Rattle.pmsi_model.specs.Slots.{SlotPlan, plan_of, bound_of}
use Rattle.pmsi_model.specs.Machine.{Machine, owner_of}
use Rattle.pmsi_model.specs.Run.{machine_at, record_at}
use Rattle.pmsi_model.specs.Rows.{row_of, action_row, slot_rows, rows_of, wait_of, open_row_of, option_list, open_rows_in, age_of}
use Rattle.pmsi_model.specs.Waiting.{posted_left, unposted_left, left_for}
use Rattle.pmsi_model.proofs.Cases.{by_test}
use Rattle.waiting_laws.specs.Laws.{LeftIsSome, RowsAreBounded}
use Rattle.pmsi_model.proofs.Distances.{distance_some}
use Rattle.waiting_laws.proofs.Phases.{phased, phased-slot}
use Rattle.waiting_laws.proofs.Slots.{IsBounded, owner_at, owner_at-below, phased_bounded, bounded_at}
use Rattle.std.specs.Option.{unwrap_or}
use Rattle.pmsi_model.specs.Machine.{first_of}

-- something is left for each want

posted_some : (plan : SlotPlan) (x : Machine) (c line : ℕ) (o : Option ℕ) → 1 ≤ posted_left plan x c line o
posted_some plan x c line None = let some = distance_some plan (unwrap_or (first_of line x.posted) c) x.slot in omega arith
posted_some plan x c line (Some o) = let some = distance_some plan o x.slot in omega arith

unposted_some : (plan : SlotPlan) (x : Machine) (c : ℕ) (victim : Option ℕ) → 1 ≤ unposted_left plan x c victim
unposted_some plan x c None = let some = distance_some plan c x.slot in omega arith
unposted_some plan x c (Some victim) = let some = distance_some plan c x.slot in omega arith

pub left_some : (plan : SlotPlan) (x : Machine) (c : ℕ) (want : Want) → 1 ≤ left_for plan x c want
left_some plan x c want = by_test (λ n. 1 ≤ n) (is_some want.post) (posted_left plan x c want.line (owner_of x plan.cores want.line)) (unposted_left plan x c want.victim)
    (λ posted. posted_some plan x c want.line (owner_of x plan.cores want.line))
    (λ waits. unposted_some plan x c want.victim)

pub left_is_some : LeftIsSome
left_is_some job is slot c want below wants = left_some (plan_of job) (machine_at job slot) c want

-- ---- completed requests

abbrev WaitsWithin : JobValue → Row → Type 0
WaitsWithin job row = wait_of row ≤ bound_of (plan_of job)

row_within : (job : JobValue) (slot : ℕ) (x : Machine) (c : ℕ) (o : Option Want) → IsBounded job slot x → c < job.shape.cores → (x.cores c).want ≡ o
    → All (WaitsWithin job) (row_of slot c o)
row_within job slot x c None bounded below is = All-nil (WaitsWithin job)
row_within job slot x c (Some want) bounded below is =
    let row : Row = record { core = c; line = want.line; kind = want.kind; issue = want.issue; post = unwrap_or want.post slot; fill = slot } in
    let most = bounded c want below is in
    let some = left_some (plan_of job) x c want in
    let within : WaitsWithin job row = omega arith in
    All-cons (WaitsWithin job) row [] within (All-nil (WaitsWithin job))

action_within : (job : JobValue) (x : Machine) (w : ℕ) (action : Action) → IsBounded job x.slot x → w < job.shape.cores
    → All (WaitsWithin job) (action_row x w action)
action_within job x w Idle bounded below = All-nil (WaitsWithin job)
action_within job x w (Post name line) bounded below = All-nil (WaitsWithin job)
action_within job x w (Fill line) bounded below = row_within job x.slot x w (x.cores w).want bounded below refl
action_within job x w (PostFill name line) bounded below = row_within job x.slot x w (x.cores w).want bounded below refl
action_within job x w (Back line kept) bounded below = All-nil (WaitsWithin job)

slot_within : (job : JobValue) → IsJob job → (slot : ℕ) → All (WaitsWithin job) (slot_rows job (machine_at job slot) (record_at job slot))
slot_within job is slot =
    action_within job (phased job slot) (owner_at job slot) (record_at job slot)
    (subst (λ (s : ℕ). IsBounded job s (phased job slot)) (sym (phased-slot job slot)) (phased_bounded job is slot (bounded_at job is slot)))
    (owner_at-below job is slot)

rows_within : (job : JobValue) → IsJob job → (slot : ℕ) → All (WaitsWithin job) (rows_of job slot)
unfolding rows_of
rows_within job is zero = All-nil (WaitsWithin job)
rows_within job is (suc slot) =
    All-append (WaitsWithin job) (rows_of job slot) (slot_rows job (machine_at job slot) (record_at job slot))
    (rows_within job is slot) (slot_within job is slot)

-- ---- open requests

abbrev IsYounger : JobValue → ℕ → OpenRow → Type 0
IsYounger job slot row = age_of slot row < bound_of (plan_of job)

open_within : (job : JobValue) (slot : ℕ) (x : Machine) (c : ℕ) (o : Option Want) → IsBounded job slot x → c < job.shape.cores → (x.cores c).want ≡ o
    → All (IsYounger job slot) (option_list (open_row_of c o))
open_within job slot x c None bounded below is = All-nil (IsYounger job slot)
open_within job slot x c (Some want) bounded below is =
    let row : OpenRow = record { core = c; line = want.line; kind = want.kind; issue = want.issue; post = want.post } in
    let most = bounded c want below is in
    let some = left_some (plan_of job) x c want in
    let younger : IsYounger job slot row = omega arith in
    All-cons (IsYounger job slot) row [] younger (All-nil (IsYounger job slot))

opens_within : (job : JobValue) (slot : ℕ) (x : Machine) (count : ℕ) → IsBounded job slot x → count ≤ job.shape.cores
    → All (IsYounger job slot) (open_rows_in x count)
opens_within job slot x zero bounded within = All-nil (IsYounger job slot)
opens_within job slot x (suc count) bounded within =
    All-append (IsYounger job slot) (open_rows_in x count) (option_list (open_row_of count (x.cores count).want))
    (opens_within job slot x count bounded (omega arith)) (open_within job slot x count (x.cores count).want bounded (omega arith) refl)

pub rows_are_bounded : RowsAreBounded
rows_are_bounded job is slot within =
    (rows_within job is slot, opens_within job slot (machine_at job slot) job.shape.cores (bounded_at job is slot) (omega arith))
