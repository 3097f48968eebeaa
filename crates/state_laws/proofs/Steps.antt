-- Each action of the machine moves the states by the table.
use Rattle.std.proofs.Common.{◌≡◌, ◌≢◌, ℕ, List, [], ◌∷◌, ◌++◌, Some, None, is_some, Bool, true, ◌==◌, if◌then◌else◌, refl, sym, ap, ◌∙◌, arith}
use mathlib.Core.Logic.{dite}
use native.Mathlib.Decide.{ℕ_discrete}
use Rattle.pmsi_model.specs.declared.job.Geometry.{Geometry}
use Rattle.pmsi_model.specs.declared.Kind.{Kind}
use Rattle.pmsi_model.specs.declared.Mode.TheVariants.{Modified}
use Rattle.pmsi_model.specs.declared.State.{State}
use Rattle.pmsi_model.specs.declared.Want.{Want}
use Rattle.pmsi_model.specs.Machine.{Machine, CoreState, Request, mode_of, mode_in, first_of, request_of, removed}
use Rattle.pmsi_model.specs.Bus.{post, noted_post, fill, write_back}
use Rattle.pmsi_model.proofs.Changes.{posted_core, filled_core, written_core, post-own, post-other, post-posted, fill-own, fill-other, fill-posted, write_back-own, write_back-other, write_back-posted}
use Rattle.coherence_laws.proofs.Exports.{IsWhole, whole_coherent, want_unowned}
use Rattle.cache_ctrl.specs.declared.Event.{Event}
use Rattle.cache_ctrl.specs.declared.Event.TheVariants.{OwnFill, OwnBack}
use Rattle.pmsi_model.specs.Named.{state_in, state_of, stays_shared}
use Rattle.cache_ctrl.specs.Duties.{own_event, other_event}
use Rattle.cache_ctrl.proofs.Exports.{IsSettled, settled_of, other_posts, other_posts_else, other_fills, want_request, writes_back, writes_back_else, own_posts, own_posts_else, own_fills, own_fills_else}
use Rattle.state_laws.specs.Laws.{next_all, after_entry}

-- the facts of a core, from those of all
pub settled_in : (shape : Geometry) (slot : ℕ) (x : Machine) → IsWhole shape slot x.posted x.cores → (c : ℕ) → IsSettled x.posted c (x.cores c)
settled_in shape slot x w c = settled_of shape (record x { slot = slot }) (whole_coherent shape (record x { slot = slot }) w) c

-- events of one line, for another
abbrev pub at_line : ℕ → ℕ → List Event → List Event
at_line line l events = if line == l then events else []

-- the line itself or another one
pub by_line : (line l : ℕ) (events : List Event) (s t : State) → (line ≡ l → next_all (Some s) events ≡ Some t) → (line ≢ l → t ≡ s)
    → next_all (Some s) (at_line line l events) ≡ Some t
by_line line l events s t here away = dite (ℕ_discrete line l)
    (λ same. rw (let e : at_line line l events ≡ events = grind arith in e) (here same))
    (λ apart. rw (let e : at_line line l events ≡ [] = grind arith in e) (ap (λ (u : State). Some u) (sym (away apart))))

-- ---- post

pub post_seen : (shape : Geometry) (slot : ℕ) (x : Machine) (c by : ℕ) (kind : Kind) (l line : ℕ) → IsWhole shape slot x.posted x.cores → c ≢ by
    → next_all (Some (state_of x c line)) (at_line line l (other_event kind ∷ [])) ≡ Some (state_of (post x by kind l) c line)
post_seen shape slot x c by kind l line w other =
    let r : Request = record { core = by; line = l; kind = kind } in
    let f = settled_in shape slot x w c in
    let e : state_of (post x by kind l) c line ≡ state_in (x.posted ++ r ∷ []) c (noted_post kind l (x.cores c)) line =
    ap (λ p. state_in p c ((post x by kind l).cores c) line) (post-posted x by kind l) ∙ ap (λ k. state_in (x.posted ++ r ∷ []) c k line) (post-other x by c kind l other) in
    rw e (by_line line l (other_event kind ∷ []) (state_of x c line) (state_in (x.posted ++ r ∷ []) c (noted_post kind l (x.cores c)) line)
    (λ same. rw same (ap after_entry (other_posts x.posted c (x.cores c) r f (λ e. other (sym e)))))
    (λ apart. other_posts_else x.posted c (x.cores c) r line (λ e. other (sym e)) apart))

pub post_own : (shape : Geometry) (slot : ℕ) (x : Machine) (c : ℕ) (want : Want) (line : ℕ) → IsWhole shape slot x.posted x.cores → (x.cores c).want ≡ Some want → want.post ≡ None
    → next_all (Some (state_of x c line)) (at_line line want.line (own_event want.kind ∷ [])) ≡ Some (state_of (post x c want.kind want.line) c line)
post_own shape slot x c want line w is unposted =
    let r : Request = want_request c want in let k : CoreState = x.cores c in
    let f = settled_in shape slot x w c in
    let v = (w.fine c).want_fine want is in
    let none : request_of c x.posted ≡ None = grind (arith, f.posted_wants) in
    let e : state_of (post x c want.kind want.line) c line ≡ state_in (x.posted ++ r ∷ []) c (posted_core x.slot k) line =
    ap (λ p. state_in p c ((post x c want.kind want.line).cores c) line) (post-posted x c want.kind want.line) ∙ ap (λ k. state_in (x.posted ++ r ∷ []) c k line) (post-own x c want.kind want.line) in
    rw e (by_line line want.line (own_event want.kind ∷ []) (state_of x c line) (state_in (x.posted ++ r ∷ []) c (posted_core x.slot k) line)
    (λ same. rw same (ap after_entry (own_posts x.posted c x.slot k want none is v.read_unheld
    (want_unowned want (mode_of want.line k.held) v.read_unheld v.write_unowned))))
    (λ apart. own_posts_else x.posted c x.slot k want line none apart))

-- ---- fill

pub fill_seen : (shape : Geometry) (slot : ℕ) (x : Machine) (c by : ℕ) (want : Want) (line : ℕ) → IsWhole shape slot x.posted x.cores → c ≢ by → (x.cores by).want ≡ Some want
    → is_some want.post ≡ true → first_of want.line x.posted ≡ Some by → mode_in x c want.line ≢ Some Modified
    → state_of (fill x by) c line ≡ state_of x c line
fill_seen shape slot x c by want line w other is post first unowned =
    let f = settled_in shape slot x w c in
    let mine : request_of by x.posted ≡ Some (want_request by want) = grind (arith, (w.fine by).posted_wants) in
    ap (λ p. state_in p c ((fill x by).cores c) line) (fill-posted x by want is) ∙ ap (λ k. state_in (removed by x.posted) c k line) (fill-other x by c other)
    ∙ other_fills x.posted c by (x.cores c) line (want_request by want) w.once (λ e. other (sym e)) mine first unowned

pub fill_own : (shape : Geometry) (slot : ℕ) (x : Machine) (c : ℕ) (want : Want) (line : ℕ) → IsWhole shape slot x.posted x.cores → (x.cores c).want ≡ Some want
    → is_some want.post ≡ true → first_of want.line x.posted ≡ Some c
    → next_all (Some (state_of x c line)) (at_line line want.line (OwnFill ∷ [])) ≡ Some (state_of (fill x c) c line)
fill_own shape slot x c want line w is post first =
    let f = settled_in shape slot x w c in
    let e : state_of (fill x c) c line ≡ state_in (removed c x.posted) c (filled_core x c want) line =
    ap (λ p. state_in p c ((fill x c).cores c) line) (fill-posted x c want is) ∙ ap (λ k. state_in (removed c x.posted) c k line) (fill-own x c want is) in
    rw e (by_line line want.line (OwnFill ∷ []) (state_of x c line) (state_in (removed c x.posted) c (filled_core x c want) line)
    (λ same. rw same (ap after_entry (own_fills x c want f is post first)))
    (λ apart. own_fills_else x c want line f is post apart))

-- ---- write-back

pub back_seen : (x : Machine) (c by l line : ℕ) (kept : Bool) → c ≢ by → state_of (write_back x by l kept) c line ≡ state_of x c line
back_seen x c by l line kept other =
    ap (λ p. state_in p c ((write_back x by l kept).cores c) line) (write_back-posted x by l kept) ∙ ap (λ k. state_in x.posted c k line) (write_back-other x by l kept c other)

pub back_own : (shape : Geometry) (slot : ℕ) (x : Machine) (c l line : ℕ) (lines : List ℕ) → IsWhole shape slot x.posted x.cores → (x.cores c).write_backs ≡ l ∷ lines
    → next_all (Some (state_of x c line)) (at_line line l (OwnBack ∷ [])) ≡ Some (state_of (write_back x c l (stays_shared x.posted (x.cores c) l)) c line)
back_own shape slot x c l line lines w first =
    let k : CoreState = x.cores c in let kept : Bool = stays_shared x.posted k l in
    let f = settled_in shape slot x w c in
    let e : state_of (write_back x c l kept) c line ≡ state_in x.posted c (written_core l kept k) line =
    ap (λ p. state_in p c ((write_back x c l kept).cores c) line) (write_back-posted x c l kept) ∙ ap (λ k. state_in x.posted c k line) (write_back-own x c l kept) in
    rw e (by_line line l (OwnBack ∷ []) (state_of x c line) (state_in x.posted c (written_core l kept k) line)
    (λ same. rw same (ap after_entry (writes_back x.posted c k l lines kept f first refl)))
    (λ apart. writes_back_else x.posted c k l line lines kept first apart))
