-- The states from the phases of a slot to the next boundary.
use Rattle.std.proofs.Common.{◌≡◌, ◌≢◌, ℕ, ◌+◌, ◌<◌, List, [], ◌∷◌, Option, Some, None, is_some, Bool, true, false, ◌==◌, if◌then◌else◌, refl, sym, ap, ◌∙◌, subst, arith}
use mathlib.Core.Logic.{dite}
use native.Mathlib.Decide.{ℕ_discrete}
use Rattle.std.specs.Option.{option_map}
use Rattle.pmsi_model.specs.declared.Action.{Action}
use Rattle.pmsi_model.specs.declared.Action.TheVariants.{Idle, Post, Fill, PostFill, Back}
use Rattle.pmsi_model.specs.declared.State.{State}
use Rattle.pmsi_model.specs.declared.Want.{Want}
use Rattle.pmsi_model.specs.Job.{JobValue}
use Rattle.pmsi_model.specs.Slots.{plan_of, owner_of_slot}
use Rattle.pmsi_model.specs.Machine.{Machine, CoreState, mode_in, first_of, nobody_owns}
use Rattle.pmsi_model.specs.Bus.{is_served, can_request_for, requests_now, name_of, kind_of_name, post, post_at, fill, write_back, keeps_line, post_action, request_action, back_action, action_of, after_action}
use Rattle.pmsi_model.specs.Run.{after_phases, slot_done, machine_at, record_at}
use Rattle.pmsi_model.proofs.Boundaries.{machine_at-slot, phases-slot, next_machine}
use Rattle.pmsi_model.proofs.Changes.{post-own}
use Rattle.pmsi_model.proofs.Cases.{by_test}
use Rattle.coherence_laws.proofs.Exports.{IsWhole, post_whole, nobody_at_all, kind_named, unposted_now, phases_at}
use Rattle.cache_ctrl.specs.declared.Event.{Event}
use Rattle.cache_ctrl.specs.declared.Event.TheVariants.{OwnFill}
use Rattle.pmsi_model.specs.Named.{state_of}
use Rattle.pmsi_model.proofs.Distances.{slot_owner_below}
use Rattle.pmsi_model.proofs.Requests.{core_is}
use Rattle.cache_ctrl.specs.Duties.{own_event}
use Rattle.state_laws.specs.Laws.{next_all, own_events, seen_events, events_of, ActionsFollow}
use Rattle.state_laws.proofs.Steps.{post_seen, post_own, fill_seen, fill_own, back_seen, back_own, at_line}

-- what an action does to the state of a line in a core
abbrev pub Follows : JobValue → Machine → ℕ → ℕ → ℕ → Action → Type 0
Follows job x by c line action = next_all (Some (state_of x c line)) (events_of by c action line) ≡ Some (state_of (after_action x by action) c line)

abbrev pub Moves : Machine → Machine → ℕ → ℕ → List Event → Type 0
Moves x y c line events = next_all (Some (state_of x c line)) events ≡ Some (state_of y c line)

own_case : (by : ℕ) (action : Action) (line : ℕ) → events_of by by action line ≡ own_events action line
own_case by action line = grind arith

seen_case : (by c : ℕ) (action : Action) (line : ℕ) → c ≢ by → events_of by c action line ≡ seen_events action line
seen_case by c action line other = grind arith

-- in the core itself, and in another
pub by_core : (by c : ℕ) (action : Action) (line : ℕ) (x y : Machine) → Moves x y by line (own_events action line) → (c ≢ by → Moves x y c line (seen_events action line))
    → Moves x y c line (events_of by c action line)
by_core by c action line x y own seen = dite (ℕ_discrete c by)
    (λ same. subst (λ (d : ℕ). Moves x y d line (events_of by d action line)) (sym same) (rw (own_case by action line) own))
    (λ other. rw (seen_case by c action line other) (seen other))

served_first : (job : JobValue) (x : Machine) (c line : ℕ) → is_served job x c line ≡ true → first_of line x.posted ≡ Some c
served_first job x c line served = core_is c (first_of line x.posted) (grind arith)

served_nobody : (job : JobValue) (x : Machine) (c line : ℕ) → is_served job x c line ≡ true → nobody_owns x job.shape.cores line ≡ true
served_nobody job x c line served = grind arith

-- a fill
fill_follows : (job : JobValue) (slot : ℕ) (x : Machine) (by c : ℕ) (want : Want) (line : ℕ) → IsWhole job.shape slot x.posted x.cores → (x.cores by).want ≡ Some want
    → is_some want.post ≡ true → is_served job x by want.line ≡ true → Moves x (fill x by) c line (events_of by c (Fill want.line) line)
fill_follows job slot x by c want line w is posted served =
    let first = served_first job x by want.line served in
    let nobody = nobody_at_all job.shape slot x want.line w (served_nobody job x by want.line served) in
    by_core by c (Fill want.line) line x (fill x by)
    (fill_own job.shape slot x by want line w is posted first)
    (λ other. ap (λ (s : State). Some s) (sym (fill_seen job.shape slot x c by want line w other is posted first (nobody c))))

post_follows : (job : JobValue) (x : Machine) (by c : ℕ) (want : Want) (line : ℕ) → IsWhole job.shape (x.slot + 1) x.posted x.cores → (x.cores by).want ≡ Some want
    → want.post ≡ None → Moves x (post x by want.kind want.line) c line (events_of by c (Post (name_of want.kind (mode_in x by want.line)) want.line) line)
post_follows job x by c want line w is unposted =
    let name = name_of want.kind (mode_in x by want.line) in
    let same : kind_of_name name ≡ want.kind = kind_named want.kind (mode_in x by want.line) in
    by_core by c (Post name want.line) line x (post x by want.kind want.line)
    (rw same (post_own job.shape (x.slot + 1) x by want line w is unposted))
    (λ other. rw same (post_seen job.shape (x.slot + 1) x c by want.kind want.line line w other))

-- the events of a post that is served at once are those of the post and then that of the fill
in_turn_by : (b : Bool) (e f : Event) (s : Option State)
    → next_all s (if b then e ∷ f ∷ [] else []) ≡ next_all (next_all s (if b then e ∷ [] else [])) (if b then f ∷ [] else [])
in_turn_by true e f s = refl
in_turn_by false e f s = refl

in_turn : (line l : ℕ) (e f : Event) (s : Option State) → next_all s (at_line line l (e ∷ f ∷ [])) ≡ next_all (next_all s (at_line line l (e ∷ []))) (at_line line l (f ∷ []))
in_turn line l e f s = in_turn_by (line == l) e f s

post_fill_follows : (job : JobValue) (x : Machine) (by c : ℕ) (want : Want) (line : ℕ) → IsWhole job.shape (x.slot + 1) x.posted x.cores → by < job.shape.cores
    → (x.cores by).want ≡ Some want → want.post ≡ None → want.victim ≡ None → is_served job (post x by want.kind want.line) by want.line ≡ true
    → Moves x (fill (post x by want.kind want.line) by) c line (events_of by c (PostFill (name_of want.kind (mode_in x by want.line)) want.line) line)
post_fill_follows job x by c want line w below is unposted free served =
    let name = name_of want.kind (mode_in x by want.line) in
    let same : kind_of_name name ≡ want.kind = kind_named want.kind (mode_in x by want.line) in
    let y : Machine = post x by want.kind want.line in
    let z : Machine = fill y by in
    let v : IsWhole job.shape (x.slot + 1) y.posted y.cores = post_whole job.shape x by want w below is unposted free in
    let now : (y.cores by).want ≡ Some (post_at x.slot want) = ap (λ (k : CoreState). k.want) (post-own x by want.kind want.line) ∙ ap (option_map (post_at x.slot)) is in
    let first = served_first job y by want.line served in
    let nobody = nobody_at_all job.shape (x.slot + 1) y want.line v (served_nobody job y by want.line served) in
    by_core by c (PostFill name want.line) line x z
    (rw same (in_turn line want.line (own_event want.kind) OwnFill (Some (state_of x by line))
    ∙ ap (λ o. next_all o (at_line line want.line (OwnFill ∷ []))) (post_own job.shape (x.slot + 1) x by want line w is unposted)
    ∙ fill_own job.shape (x.slot + 1) y by (post_at x.slot want) line v now refl first))
    (λ other. rw same (post_seen job.shape (x.slot + 1) x c by want.kind want.line line w other
    ∙ ap (λ (s : State). Some s) (sym (fill_seen job.shape (x.slot + 1) y c by (post_at x.slot want) line v other now refl first (nobody c)))))

idle_follows : (x : Machine) (by c line : ℕ) → Moves x x c line (events_of by c Idle line)
idle_follows x by c line = by_core by c Idle line x x refl (λ other. refl)

post_action_follows : (job : JobValue) (x : Machine) (by c : ℕ) (want : Want) (line : ℕ) → IsWhole job.shape (x.slot + 1) x.posted x.cores → by < job.shape.cores
    → (x.cores by).want ≡ Some want → want.post ≡ None → want.victim ≡ None → Follows job x by c line (post_action job x by want)
unfolding after_action
post_action_follows job x by c want line w below is unposted free =
    let name = name_of want.kind (mode_in x by want.line) in
    let same = kind_named want.kind (mode_in x by want.line) in
    by_test (Follows job x by c line) (is_served job (post x by want.kind want.line) by want.line) (PostFill name want.line) (Post name want.line)
    (λ served. subst (λ kind. Moves x (fill (post x by kind want.line) by) c line (events_of by c (PostFill name want.line) line)) (sym same)
    (post_fill_follows job x by c want line w below is unposted free served))
    (λ waits. subst (λ kind. Moves x (post x by kind want.line) c line (events_of by c (Post name want.line) line)) (sym same)
    (post_follows job x by c want line w is unposted))

served_now : (job : JobValue) (x : Machine) (c : ℕ) (want : Want) → (x.cores c).want ≡ Some want → is_some want.post ≡ true
    → requests_now job x c ≡ true → is_served job x c want.line ≡ true
served_now job x c want is posted now =
    let can : can_request_for job x c (Some want) ≡ true = subst (λ o. can_request_for job x c o ≡ true) is (grind arith) in grind arith

request_action_follows : (job : JobValue) (x : Machine) (by c : ℕ) (want : Option Want) (line : ℕ) → IsWhole job.shape (x.slot + 1) x.posted x.cores → by < job.shape.cores
    → (x.cores by).want ≡ want → requests_now job x by ≡ true → Follows job x by c line (request_action job x by want)
unfolding after_action
request_action_follows job x by c None line w below is now = idle_follows x by c line
request_action_follows job x by c (Some want) line w below is now =
    by_test (Follows job x by c line) (is_some want.post) (Fill want.line) (post_action job x by want)
    (λ posted. fill_follows job (x.slot + 1) x by c want line w is posted (served_now job x by want is posted now))
    (λ unposted. post_action_follows job x by c want line w below is (grind arith) (unposted_now job x by want is unposted now))

back_action_follows : (job : JobValue) (x : Machine) (by c : ℕ) (lines : List ℕ) (line : ℕ) → IsWhole job.shape (x.slot + 1) x.posted x.cores → (x.cores by).write_backs ≡ lines
    → Follows job x by c line (back_action x by lines)
unfolding after_action
back_action_follows job x by c [] line w is = idle_follows x by c line
back_action_follows job x by c (l ∷ lines) line w is =
    by_core by c (Back l (keeps_line x by l)) line x (write_back x by l (keeps_line x by l))
    (back_own job.shape (x.slot + 1) x by l line lines w is)
    (λ other. ap (λ (s : State). Some s) (sym (back_seen x c by l line (keeps_line x by l) other)))

pub action_follows : (job : JobValue) (x : Machine) (by c line : ℕ) → IsWhole job.shape (x.slot + 1) x.posted x.cores → by < job.shape.cores
    → Follows job x by c line (action_of job x by)
unfolding action_of
action_follows job x by c line w below =
    by_test (Follows job x by c line) (requests_now job x by) (request_action job x by (x.cores by).want) (back_action x by (x.cores by).write_backs)
    (λ now. request_action_follows job x by c (x.cores by).want line w below refl now)
    (λ later. back_action_follows job x by c (x.cores by).write_backs line w refl)

-- ---- slots

slot_follows : (job : JobValue) (x : Machine) (c line : ℕ) → IsWhole job.shape (x.slot + 1) (after_phases job x).posted (after_phases job x).cores → (after_phases job x).slot ≡ x.slot
    → owner_of_slot (plan_of job) x.slot < job.shape.cores
    → next_all (Some (state_of (after_phases job x) c line)) (events_of (owner_of_slot (plan_of job) x.slot) c (action_of job (after_phases job x) (owner_of_slot (plan_of job) x.slot)) line)
    ≡ Some (state_of (slot_done job x) c line)
unfolding slot_done
slot_follows job x c line w same below =
    let y : Machine = after_phases job x in
    action_follows job y (owner_of_slot (plan_of job) x.slot) c line (subst (λ (s : ℕ). IsWhole job.shape (s + 1) y.posted y.cores) (sym same) w) below

pub actions_follow : ActionsFollow
actions_follow job is slot c line below =
    let x : Machine = machine_at job slot in
    let at : x.slot ≡ slot = machine_at-slot job slot in
    let w : IsWhole job.shape (x.slot + 1) (after_phases job x).posted (after_phases job x).cores =
    subst (λ (s : ℕ). IsWhole job.shape (s + 1) (after_phases job x).posted (after_phases job x).cores) (sym at) (phases_at job is slot job.shape.cores (omega arith)) in
    let follows = slot_follows job x c line w (phases-slot job job.shape.cores x) (slot_owner_below (plan_of job) x.slot is.shape.some_cores) in
    rw (next_machine job slot)
    (subst (λ (s : ℕ). next_all (Some (state_of (after_phases job x) c line)) (events_of (owner_of_slot (plan_of job) s) c (record_at job slot) line) ≡ Some (state_of (slot_done job x) c line)) at follows)
