-- What the fill of a core's request does to the states of its lines.
use Rattle.std.proofs.Common.{◌≡◌, ◌≢◌, ℕ, List, Bool, true, false, ◌&&◌, ◌||◌, Option, Some, None, is_some, ◌==◌, if◌then◌else◌, refl, sym, ap, ◌∙◌, arith}
use Rattle.pmsi_model.specs.declared.Kind.{Kind}
use Rattle.pmsi_model.specs.declared.Kind.TheVariants.{Read, Write}
use Rattle.pmsi_model.specs.declared.Mode.TheVariants.{Modified}
use Rattle.pmsi_model.specs.declared.Want.{Want}
use Rattle.pmsi_model.specs.Machine.{Machine, CoreState, Request, mode_of, is_shared, is_write, has_line, has_request, has_write, first_of, request_of, removed}
use Rattle.pmsi_model.specs.Bus.{has_victim_for, append_demanded}
use Rattle.pmsi_model.specs.Coherent.{posted_request, victim_in}
use Rattle.pmsi_model.proofs.Changes.{filled_core, mode_filled}
use Rattle.pmsi_model.proofs.Requests.{request_less, has_request_else, has_write_else, write_waits}
use Rattle.pmsi_model.proofs.WriteBacks.{line_more}
use Rattle.cache_ctrl.specs.declared.Event.TheVariants.{OwnFill}
use Rattle.cache_ctrl.specs.declared.Duty.{Duty}
use Rattle.cache_ctrl.specs.declared.Duty.TheVariants.{Nothing, Append}
use Rattle.cache_ctrl.specs.Table.{next_of}
use Rattle.pmsi_model.specs.Named.{posted_state, asked_of, behind_of, state_in, stays_shared}
use Rattle.cache_ctrl.specs.Duties.{backs_by}
use Rattle.cache_ctrl.proofs.Cells.{cell_fill, same_state}
use Rattle.cache_ctrl.proofs.Behind.{has_behind_first, write_behind_first}
use Rattle.cache_ctrl.proofs.Settled.{IsSettled}
use Rattle.cache_ctrl.proofs.Own.{want_request}

-- the duty at a fill: who owns the line with requests behind has to write it back
abbrev pub fill_duty : Kind → Bool → Duty
fill_duty kind behind = if is_write kind && behind then Append else Nothing

-- what is to be written back is so by the duty
pub filled_backs : (kind : Kind) (behind : Bool) (line : ℕ) (backs : List ℕ) → append_demanded kind behind line backs ≡ backs_by (fill_duty kind behind) line backs
filled_backs Read behind line backs = refl
filled_backs Write true line backs = refl
filled_backs Write false line backs = refl

backs_line : (kind : Kind) (behind : Bool) (l line : ℕ) (backs : List ℕ) → has_line l (append_demanded kind behind line backs) ≡ (has_line l backs || (is_write kind && behind && line == l))
backs_line Read behind l line backs = grind arith
backs_line Write true l line backs = grind (arith, line_more l line backs)
backs_line Write false l line backs = grind arith

-- a posted want's request
pub request_posted : (posted : List Request) (c : ℕ) (k : CoreState) (want : Want) → IsSettled posted c k → k.want ≡ Some want → is_some want.post ≡ true
    → request_of c posted ≡ Some (want_request c want)
request_posted posted c k want f is post = f.posted_wants ∙ ap (posted_request c) is ∙ (grind arith)

pub own_fills : (x : Machine) (c : ℕ) (want : Want) → IsSettled x.posted c (x.cores c) → (x.cores c).want ≡ Some want → is_some want.post ≡ true
    → first_of want.line x.posted ≡ Some c
    → next_of (state_in x.posted c (x.cores c) want.line) OwnFill
    ≡ Some (state_in (removed c x.posted) c (filled_core x c want) want.line, fill_duty want.kind (has_request want.line (behind_of c x.posted)))
unfolding state_in
own_fills x c want f is post first =
    let line : ℕ = want.line in let rest : List Request = removed c x.posted in let k : CoreState = x.cores c in
    let r : Request = want_request c want in
    let mine : request_of c x.posted ≡ Some r = request_posted x.posted c k want f is post in
    let unowned : mode_of line k.held ≢ Some Modified = f.posted_unowned r mine in
    let new : has_line line k.write_backs ≡ false = grind (arith, f.back_owned line) in
    rw (let e : asked_of line (request_of c x.posted) ≡ Some want.kind = grind arith in e)
    rw (let e : asked_of line (request_of c rest) ≡ None = grind (arith, request_less c c x.posted) in e)
    (cell_fill want.kind (mode_of line k.held) (mode_of line (filled_core x c want).held)
    (has_line line k.write_backs) (stays_shared x.posted k line) (has_request line (behind_of c x.posted)) (has_write line (behind_of c x.posted))
    (has_line line (filled_core x c want).write_backs) (stays_shared rest (filled_core x c want) line) (has_request line (behind_of c rest)) (has_write line (behind_of c rest))
    (λ read. f.posted_unheld r mine read) (write_waits line (behind_of c x.posted))
    (grind (arith, mode_filled want.kind (has_write line rest) line line k.held, write_behind_first c line x.posted f.once first))
    (λ write. grind (arith, backs_line want.kind (has_request line rest) line line k.write_backs, has_behind_first c line x.posted f.once first))
    (grind (arith, has_behind_first c line x.posted f.once first, write_behind_first c line x.posted f.once first)))

victim_none : (l : ℕ) (o : Option Want) → victim_in o ≡ None → has_victim_for l o ≡ false
victim_none l None none = refl
victim_none l (Some want) none = grind arith

pub own_fills_else : (x : Machine) (c : ℕ) (want : Want) (l : ℕ) → IsSettled x.posted c (x.cores c) → (x.cores c).want ≡ Some want → is_some want.post ≡ true
    → l ≢ want.line → state_in (removed c x.posted) c (filled_core x c want) l ≡ state_in x.posted c (x.cores c) l
unfolding state_in
own_fills_else x c want l f is post away =
    let rest : List Request = removed c x.posted in let k : CoreState = x.cores c in let j : CoreState = filled_core x c want in
    let r : Request = want_request c want in
    let mine : request_of c x.posted ≡ Some r = request_posted x.posted c k want f is post in
    let free : asked_of l (request_of c x.posted) ≡ None = grind arith in
    let apart : r.line ≢ l = (λ same. away (sym same)) in
    let unvictim : has_victim_for l k.want ≡ false = victim_none l k.want (f.posted_free (λ none. grind arith)) in
    same_state (asked_of l (request_of c x.posted)) (asked_of l (request_of c rest))
    (mode_of l k.held) (mode_of l j.held) (has_line l k.write_backs) (has_line l j.write_backs)
    (stays_shared x.posted k l) (stays_shared rest j l)
    (has_request l (behind_of c x.posted)) (has_request l (behind_of c rest))
    (has_write l (behind_of c x.posted)) (has_write l (behind_of c rest))
    (grind (arith, request_less c c x.posted))
    (grind (arith, mode_filled want.kind (has_write want.line rest) l want.line k.held))
    (grind (arith, backs_line want.kind (has_request want.line rest) l want.line k.write_backs))
    (grind (arith, has_request_else l c x.posted r f.once mine apart, has_write_else l c x.posted r f.once mine apart, unvictim))
    (λ some. absurd (some free)) (λ some. absurd (some free))

-- before a fill the state says what is left in the queue
pub filled_state : (x : Machine) (c : ℕ) (want : Want) → IsSettled x.posted c (x.cores c) → (x.cores c).want ≡ Some want → is_some want.post ≡ true
    → first_of want.line x.posted ≡ Some c
    → state_in x.posted c (x.cores c) want.line
    ≡ posted_state want.kind (is_shared (mode_of want.line (x.cores c).held)) (has_request want.line (removed c x.posted)) (has_write want.line (removed c x.posted))
unfolding state_in
filled_state x c want f is post first =
    let line : ℕ = want.line in let k : CoreState = x.cores c in
    let mine : request_of c x.posted ≡ Some (want_request c want) = request_posted x.posted c k want f is post in
    rw (let e : asked_of line (request_of c x.posted) ≡ Some want.kind = grind arith in e)
    rw (has_behind_first c line x.posted f.once first) rw (write_behind_first c line x.posted f.once first) refl
