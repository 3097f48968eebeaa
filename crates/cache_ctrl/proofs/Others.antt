-- What another core's actions do to the states of a core's lines.
use Rattle.std.proofs.Common.{◌≡◌, ◌≢◌, ℕ, List, [], ◌∷◌, ◌++◌, Bool, not, ◌&&◌, ◌||◌, Option, Some, None, if◌then◌else◌, refl, sym, ap, ◌∙◌, arith}
use mathlib.Core.Logic.{dite}
use native.Mathlib.Decide.{ℕ_discrete}
use Rattle.pmsi_model.specs.declared.Kind.{Kind}
use Rattle.pmsi_model.specs.declared.Kind.TheVariants.{Read, Write}
use Rattle.pmsi_model.specs.declared.Mode.{Mode}
use Rattle.pmsi_model.specs.declared.Mode.TheVariants.{Shared, Modified}
use Rattle.pmsi_model.specs.Machine.{CoreState, Request, mode_of, is_shared, is_modified, is_write, has_line, has_request, has_write, first_of, request_of, removed}
use Rattle.pmsi_model.specs.Bus.{noted_post_in, noted_post, has_victim_for}
use Rattle.pmsi_model.specs.Coherent.{RequestsOnce}
use Rattle.pmsi_model.proofs.Changes.{noted-mode, noted-backs, noted-want}
use Rattle.pmsi_model.proofs.Requests.{request_more, has_request_more, has_write_more, request_less, has_request_else, has_write_else}
use Rattle.pmsi_model.proofs.WriteBacks.{line_append_once}
use Rattle.cache_ctrl.specs.Table.{next_of}
use Rattle.pmsi_model.specs.Named.{asked_of, behind_of, state_in, stays_shared}
use Rattle.cache_ctrl.specs.Duties.{other_event, other_duty, done}
use Rattle.cache_ctrl.proofs.Cells.{cell_other, same_named, same_state, plain_state}
use Rattle.cache_ctrl.proofs.Behind.{behind_more, has_behind_other, write_behind_other, has_behind_else, write_behind_else}
use Rattle.cache_ctrl.proofs.Settled.{IsSettled, fit_of, asks}

noted_in_done : (kind : Kind) (line : ℕ) (mode : Option Mode) (k : CoreState)
    → noted_post_in kind line mode k ≡ done (other_duty kind mode (has_line line k.write_backs)) line k
noted_in_done kind line None k = refl
noted_in_done Read line (Some Shared) k = refl
noted_in_done Write line (Some Shared) k = refl
noted_in_done kind line (Some Modified) k = grind arith

-- the note of a post is the duty
pub noted_done : (kind : Kind) (line : ℕ) (k : CoreState) → noted_post kind line k ≡ done (other_duty kind (mode_of line k.held) (has_line line k.write_backs)) line k
noted_done kind line k = noted_in_done kind line (mode_of line k.held) k

-- another core posts a request for the line
pub other_posts : (posted : List Request) (c : ℕ) (k : CoreState) (r : Request) → IsSettled posted c k → r.core ≢ c
    → next_of (state_in posted c k r.line) (other_event r.kind)
    ≡ Some (state_in (posted ++ r ∷ []) c (noted_post r.kind r.line k) r.line, other_duty r.kind (mode_of r.line k.held) (has_line r.line k.write_backs))
unfolding state_in
other_posts posted c k r f other =
    let line : ℕ = r.line in let rs : List Request = posted ++ r ∷ [] in let j : CoreState = noted_post r.kind r.line k in
    let a : Option Kind = asked_of line (request_of c posted) in
    let seen : Bool = not (has_write line posted) && not (has_victim_for line k.want) in
    let b' : Bool = has_request line (behind_of c rs) in
    let wb' : Bool = has_write line (behind_of c rs) in
    cell_other r.kind a (mode_of line k.held) (has_line line k.write_backs) (stays_shared posted k line) seen
    (has_request line (behind_of c posted)) (has_write line (behind_of c posted)) b' wb' (fit_of posted c k f line)
    (λ some. let q = asks c line posted (request_of c posted) refl some in grind (arith, behind_more c posted r q.0 q.1, has_request_more line (behind_of c posted) r))
    (λ some. let q = asks c line posted (request_of c posted) refl some in grind (arith, behind_more c posted r q.0 q.1, has_write_more line (behind_of c posted) r))
    ∙ ap (λ s. Some (s, other_duty r.kind (mode_of line k.held) (has_line line k.write_backs)))
    (same_named a (asked_of line (request_of c rs))
    (if is_write r.kind && is_shared (mode_of line k.held) then None else mode_of line k.held) (mode_of line j.held)
    (is_modified (mode_of line k.held) || has_line line k.write_backs) (has_line line j.write_backs)
    (seen && not (is_write r.kind)) (stays_shared rs j line)
    b' b' wb' wb'
    (grind (arith, request_more c posted r))
    (grind (arith, noted-mode r.kind line line k))
    (grind (arith, noted-backs r.kind line k, line_append_once line line k.write_backs))
    (grind (arith, has_request_more line posted r, has_write_more line posted r, noted-want r.kind line k)) refl refl)

-- the states of other lines stay
pub other_posts_else : (posted : List Request) (c : ℕ) (k : CoreState) (r : Request) (line : ℕ) → r.core ≢ c → line ≢ r.line
    → state_in (posted ++ r ∷ []) c (noted_post r.kind r.line k) line ≡ state_in posted c k line
unfolding state_in
other_posts_else posted c k r line other away =
    let rs : List Request = posted ++ r ∷ [] in let j : CoreState = noted_post r.kind r.line k in
    same_state (asked_of line (request_of c posted)) (asked_of line (request_of c rs))
    (mode_of line k.held) (mode_of line j.held) (has_line line k.write_backs) (has_line line j.write_backs)
    (stays_shared posted k line) (stays_shared rs j line)
    (has_request line (behind_of c posted)) (has_request line (behind_of c rs))
    (has_write line (behind_of c posted)) (has_write line (behind_of c rs))
    (grind (arith, request_more c posted r))
    (grind (arith, noted-mode r.kind r.line line k))
    (grind (arith, noted-backs r.kind r.line k, line_append_once line r.line k.write_backs))
    (grind (arith, has_request_more line posted r, has_write_more line posted r, noted-want r.kind r.line k))
    (λ some. let q = asks c line posted (request_of c posted) refl some in grind (arith, behind_more c posted r q.0 q.1, has_request_more line (behind_of c posted) r))
    (λ some. let q = asks c line posted (request_of c posted) refl some in grind (arith, behind_more c posted r q.0 q.1, has_write_more line (behind_of c posted) r))

filled_here : (posted : List Request) (c d : ℕ) (k : CoreState) (line : ℕ) (a : Option Kind) → asked_of line (request_of c posted) ≡ a → RequestsOnce posted → d ≢ c → first_of line posted ≡ Some d
    → mode_of line k.held ≢ Some Modified
    → state_in (removed d posted) c k line ≡ state_in posted c k line
unfolding state_in
filled_here posted c d k line None is f other first unowned =
    let rest : List Request = removed d posted in
    rw (let e : asked_of line (request_of c rest) ≡ None = grind (arith, request_less c d posted) in e)
    rw is
    (plain_state (mode_of line k.held) (has_line line k.write_backs) (has_line line k.write_backs) (stays_shared posted k line) (stays_shared rest k line)
    (has_request line (behind_of c posted)) (has_request line (behind_of c rest))
    (has_write line (behind_of c posted)) (has_write line (behind_of c rest)) unowned)
filled_here posted c d k line (Some kind) is f other first unowned =
    let q = asks c line posted (request_of c posted) refl (λ none. grind arith) in
    rw (let e : asked_of line (request_of c (removed d posted)) ≡ Some kind = grind (arith, request_less c d posted) in e)
    rw is
    rw (has_behind_other c d line posted q.0 f first other q.1 q.2)
    rw (write_behind_other c d line posted q.0 f first other q.1 q.2)
    refl

filled_away : (posted : List Request) (c d : ℕ) (k : CoreState) (line : ℕ) (r : Request) → RequestsOnce posted → d ≢ c → request_of d posted ≡ Some r → line ≢ r.line
    → state_in (removed d posted) c k line ≡ state_in posted c k line
unfolding state_in
filled_away posted c d k line r f other is away =
    let apart : r.line ≢ line = (λ same. away (sym same)) in
    rw (let e : asked_of line (request_of c (removed d posted)) ≡ asked_of line (request_of c posted) = grind (arith, request_less c d posted) in e)
    rw (has_request_else line d posted r f is apart)
    rw (has_write_else line d posted r f is apart)
    rw (has_behind_else c d line posted r f is apart other)
    rw (write_behind_else c d line posted r f is apart other)
    refl

-- the fill of another core's request, which is the first of a line that nobody owns, leaves the states
pub other_fills : (posted : List Request) (c d : ℕ) (k : CoreState) (line : ℕ) (r : Request) → RequestsOnce posted → d ≢ c → request_of d posted ≡ Some r
    → first_of r.line posted ≡ Some d → mode_of r.line k.held ≢ Some Modified
    → state_in (removed d posted) c k line ≡ state_in posted c k line
other_fills posted c d k line r f other is first unowned = dite (ℕ_discrete line r.line)
    (λ here. rw here (filled_here posted c d k r.line (asked_of r.line (request_of c posted)) refl f other first unowned))
    (λ away. filled_away posted c d k line r f other is away)
