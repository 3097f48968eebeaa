-- The facts of all cores hold at each slot boundary.
use Rattle.std.proofs.Common.{◌≡◌, ◌≢◌, ℕ, zero, suc, ◌+◌, ◌<◌, ◌≤◌, List, [], ◌∷◌, Option, Some, None, is_some, true, false, refl, sym, ap, ◌∙◌, subst, arith}
use mathlib.Core.Logic.{dite}
use native.Mathlib.Decide.{dec_le}
use Rattle.std.specs.Option.{option_map}
use Rattle.pmsi_model.specs.declared.job.Geometry.{Geometry}
use Rattle.pmsi_model.specs.declared.Action.{Action}
use Rattle.pmsi_model.specs.declared.Action.TheVariants.{Post, Fill, PostFill}
use Rattle.pmsi_model.specs.declared.Kind.{Kind}
use Rattle.pmsi_model.specs.declared.Kind.TheVariants.{Read, Write}
use Rattle.pmsi_model.specs.declared.Mode.{Mode}
use Rattle.pmsi_model.specs.declared.Mode.TheVariants.{Modified}
use Rattle.pmsi_model.specs.declared.Want.{Want}
use Rattle.pmsi_model.specs.Job.{JobValue, IsJob}
use Rattle.pmsi_model.specs.Machine.{Machine, CoreState, mode_of, mode_in, nobody_owns}
use Rattle.pmsi_model.specs.Phase.{phases}
use Rattle.pmsi_model.specs.Slots.{plan_of}
use Rattle.pmsi_model.specs.Bus.{is_served, can_request_for, requests_now, name_of, kind_of_name, post, post_at, fill, post_action, request_action, back_action, action_of, after_action}
use Rattle.pmsi_model.specs.Run.{start_core, start_of, after_phases, slot_done, machine_at, slot_owner}
use Rattle.pmsi_model.specs.Coherent.{IsCoherent}
use Rattle.pmsi_model.proofs.Boundaries.{phases-slot, machine_at-slot}
use Rattle.pmsi_model.proofs.Changes.{post-own}
use Rattle.pmsi_model.proofs.Owners.{nobody_below}
use Rattle.pmsi_model.proofs.Cases.{by_test}
use Rattle.pmsi_model.proofs.Distances.{slot_owner_below}
use Rattle.coherence_laws.specs.Laws.{StaysCoherent}
use Rattle.coherence_laws.proofs.Whole.{IsWhole, whole_coherent, whole_later}
use Rattle.coherence_laws.proofs.Acts.{post_whole, fill_whole, back_whole}
use Rattle.coherence_laws.proofs.Phases.{phases_whole}

-- ---- the action of a slot

-- where none of the job's cores owns a line no core does
pub nobody_at_all : (shape : Geometry) (slot : ℕ) (x : Machine) (line : ℕ) → IsWhole shape slot x.posted x.cores
    → nobody_owns x shape.cores line ≡ true → (d : ℕ) → mode_in x d line ≢ Some Modified
nobody_at_all shape slot x line w nobody d owned = dite (dec_le shape.cores d)
    (λ past. let none : mode_in x d line ≡ None = ap (mode_of line) (w.outside d past) in grind arith)
    (λ below. nobody_below x shape.cores line nobody d (omega arith) owned)

pub kind_named : (kind : Kind) (mode : Option Mode) → kind_of_name (name_of kind mode) ≡ kind
kind_named Read mode = refl
kind_named Write mode = grind arith

abbrev pub WholeAfter : JobValue → Machine → ℕ → Action → Type 0
WholeAfter job x c action = IsWhole job.shape (x.slot + 1) (after_action x c action).posted (after_action x c action).cores

served_now : (job : JobValue) (x : Machine) (c : ℕ) (want : Want) → (x.cores c).want ≡ Some want → is_some want.post ≡ true
    → requests_now job x c ≡ true → nobody_owns x job.shape.cores want.line ≡ true
served_now job x c want is posted now =
    let can : can_request_for job x c (Some want) ≡ true = subst (λ o. can_request_for job x c o ≡ true) is (grind arith) in grind arith

pub unposted_now : (job : JobValue) (x : Machine) (c : ℕ) (want : Want) → (x.cores c).want ≡ Some want → is_some want.post ≡ false
    → requests_now job x c ≡ true → want.victim ≡ None
unposted_now job x c want is posted now =
    let can : can_request_for job x c (Some want) ≡ true = subst (λ o. can_request_for job x c o ≡ true) is (grind arith) in grind arith

pub post_fill_whole : (job : JobValue) (x : Machine) (c : ℕ) (want : Want) → IsWhole job.shape (x.slot + 1) x.posted x.cores
    → c < job.shape.cores → (x.cores c).want ≡ Some want → want.post ≡ None → want.victim ≡ None
    → nobody_owns (post x c want.kind want.line) job.shape.cores want.line ≡ true
    → IsWhole job.shape (x.slot + 1) (fill (post x c want.kind want.line) c).posted (fill (post x c want.kind want.line) c).cores
post_fill_whole job x c want w below is unposted free nobody =
    let y : Machine = post x c want.kind want.line in
    let v : IsWhole job.shape (x.slot + 1) y.posted y.cores = post_whole job.shape x c want w below is unposted free in
    fill_whole job.shape (x.slot + 1) y c (post_at x.slot want) v below (ap (λ (k : CoreState). k.want) (post-own x c want.kind want.line) ∙ ap (option_map (post_at x.slot)) is) refl
    (nobody_at_all job.shape (x.slot + 1) y want.line v nobody)

post_action_whole : (job : JobValue) (x : Machine) (c : ℕ) (want : Want) → IsWhole job.shape (x.slot + 1) x.posted x.cores
    → c < job.shape.cores → (x.cores c).want ≡ Some want → want.post ≡ None → want.victim ≡ None
    → WholeAfter job x c (post_action job x c want)
unfolding after_action
post_action_whole job x c want w below is unposted free =
    let same = kind_named want.kind (mode_in x c want.line) in
    by_test (WholeAfter job x c) (is_served job (post x c want.kind want.line) c want.line) (PostFill (name_of want.kind (mode_in x c want.line)) want.line) (Post (name_of want.kind (mode_in x c want.line)) want.line)
    (λ served. subst (λ kind. IsWhole job.shape (x.slot + 1) (fill (post x c kind want.line) c).posted (fill (post x c kind want.line) c).cores) (sym same)
    (post_fill_whole job x c want w below is unposted free (grind arith)))
    (λ waits. subst (λ kind. IsWhole job.shape (x.slot + 1) (post x c kind want.line).posted (post x c kind want.line).cores) (sym same) (post_whole job.shape x c want w below is unposted free))

request_action_whole : (job : JobValue) (x : Machine) (c : ℕ) (want : Option Want) → IsWhole job.shape (x.slot + 1) x.posted x.cores
    → c < job.shape.cores → (x.cores c).want ≡ want → requests_now job x c ≡ true
    → WholeAfter job x c (request_action job x c want)
unfolding after_action
request_action_whole job x c None w below is now = w
request_action_whole job x c (Some want) w below is now =
    by_test (WholeAfter job x c) (is_some want.post) (Fill want.line) (post_action job x c want)
    (λ posted. fill_whole job.shape (x.slot + 1) x c want w below is posted (nobody_at_all job.shape (x.slot + 1) x want.line w (served_now job x c want is posted now)))
    (λ unposted. post_action_whole job x c want w below is (grind arith) (unposted_now job x c want is unposted now))

back_action_whole : (job : JobValue) (x : Machine) (c : ℕ) (lines : List ℕ) → IsWhole job.shape (x.slot + 1) x.posted x.cores
    → c < job.shape.cores → (x.cores c).write_backs ≡ lines
    → WholeAfter job x c (back_action x c lines)
unfolding after_action
back_action_whole job x c [] w below is = w
back_action_whole job x c (line ∷ lines) w below is = back_whole job.shape (x.slot + 1) x c line lines w below is

pub action_whole : (job : JobValue) (x : Machine) (c : ℕ) → IsWhole job.shape (x.slot + 1) x.posted x.cores → c < job.shape.cores
    → WholeAfter job x c (action_of job x c)
unfolding action_of
action_whole job x c w below =
    by_test (WholeAfter job x c) (requests_now job x c) (request_action job x c (x.cores c).want) (back_action x c (x.cores c).write_backs)
    (λ now. request_action_whole job x c (x.cores c).want w below refl now)
    (λ later. back_action_whole job x c (x.cores c).write_backs w below refl)

-- ---- slots

start_whole : (job : JobValue) → IsWhole job.shape 0 [] (start_core job)
start_whole job = record {
  fine = λ c. record {
    held_once = tt;
    held_within = λ line. omega arith;
    posted_wants = refl;
    demanded_waits = λ line owned. absurd (grind arith);
    back_once = tt;
    back_owned = λ line has. absurd (grind arith);
    back_due = λ line has. absurd (grind arith);
    want_fine = λ want is. absurd (grind arith);
  };
  alone = λ c d line owned. absurd (grind arith);
  once = tt;
  write_alone = λ c d r is. absurd (grind arith);
  outside = λ c past. refl;
  idle = λ c past. refl;
}

slot_whole : (job : JobValue) (x : Machine) → 1 ≤ job.shape.cores → 1 ≤ job.shape.ways → IsWhole job.shape x.slot x.posted x.cores
    → IsWhole job.shape (slot_done job x).slot (slot_done job x).posted (slot_done job x).cores
unfolding slot_done
slot_whole job x cores ways w =
    let y : Machine = after_phases job x in
    let c : ℕ = slot_owner job x in
    let same : y.slot ≡ x.slot = phases-slot job job.shape.cores x in
    let before : IsWhole job.shape (x.slot + 1) y.posted y.cores =
    phases_whole job job.shape.cores x ways (omega arith) (whole_later job.shape x.slot x.posted x.cores w) in
    subst (λ (s : ℕ). IsWhole job.shape (s + 1) (after_action y c (action_of job y c)).posted (after_action y c (action_of job y c)).cores) same
    (action_whole job y c (subst (λ (s : ℕ). IsWhole job.shape (s + 1) y.posted y.cores) (sym same) before) (slot_owner_below (plan_of job) x.slot cores))

pub whole_at : (job : JobValue) → IsJob job → (slot : ℕ)
    → IsWhole job.shape (machine_at job slot).slot (machine_at job slot).posted (machine_at job slot).cores
unfolding machine_at start_of
whole_at job is zero = start_whole job
whole_at job is (suc slot) = slot_whole job (machine_at job slot) is.shape.some_cores is.shape.some_ways (whole_at job is slot)

-- also between the phases of a slot, where the slot counts as the next
pub phases_at : (job : JobValue) → IsJob job → (slot count : ℕ) → count ≤ job.shape.cores
    → IsWhole job.shape (slot + 1) (phases job count (machine_at job slot)).posted (phases job count (machine_at job slot)).cores
phases_at job is slot count within =
    let x : Machine = machine_at job slot in
    let same : x.slot ≡ slot = machine_at-slot job slot in
    subst (λ (s : ℕ). IsWhole job.shape (s + 1) (phases job count x).posted (phases job count x).cores) same
    (phases_whole job count x is.shape.some_ways within (whole_later job.shape x.slot x.posted x.cores (whole_at job is slot)))

pub phases_coherent : (job : JobValue) → IsJob job → (slot count : ℕ) → count ≤ job.shape.cores
    → IsCoherent job.shape (record (phases job count (machine_at job slot)) { slot = slot + 1 })
phases_coherent job is slot count within =
    whole_coherent job.shape (record (phases job count (machine_at job slot)) { slot = slot + 1 }) (phases_at job is slot count within)

pub stays_coherent : StaysCoherent
stays_coherent job is slot = whole_coherent job.shape (machine_at job slot) (whole_at job is slot)
