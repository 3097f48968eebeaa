-- What a core's own actions do to the states of its lines.
use Rattle.std.proofs.Common.{◌≡◌, ◌≢◌, ℕ, List, [], ◌∷◌, ◌++◌, Bool, true, false, Option, Some, None, if◌then◌else◌, refl, ap, arith}
use Rattle.std.specs.Option.{option_map}
use Rattle.pmsi_model.specs.declared.Kind.{Kind}
use Rattle.pmsi_model.specs.declared.Kind.TheVariants.{Read}
use Rattle.pmsi_model.specs.declared.Mode.TheVariants.{Shared, Modified}
use Rattle.pmsi_model.specs.declared.State.TheVariants.{MSWB, MIWB}
use Rattle.pmsi_model.specs.declared.Want.{Want}
use Rattle.pmsi_model.specs.Machine.{CoreState, Request, mode_of, has_line, has_request, has_write, request_of}
use Rattle.pmsi_model.specs.Bus.{has_victim_for, clear_victim, post_at}
use Rattle.pmsi_model.proofs.Changes.{posted_core, written_core}
use Rattle.pmsi_model.proofs.Held.{mode_without, mode_with_mode}
use Rattle.pmsi_model.proofs.Requests.{request_more, has_request_more, has_write_more}
use Rattle.cache_ctrl.specs.declared.Event.TheVariants.{OwnBack}
use Rattle.cache_ctrl.specs.declared.Duty.TheVariants.{Nothing, DropCopy}
use Rattle.cache_ctrl.specs.Table.{next_of}
use Rattle.pmsi_model.specs.Named.{asked_of, behind_of, state_in, stays_shared}
use Rattle.cache_ctrl.specs.Duties.{own_event}
use Rattle.cache_ctrl.proofs.Cells.{cell_back, cell_get, same_state}
use Rattle.cache_ctrl.proofs.Behind.{behind_new}
use Rattle.cache_ctrl.proofs.Settled.{IsSettled, fit_of}

-- ---- write-back

none_by : (a : Option Kind) → (a ≡ None → a ≡ None) → (a ≢ None → a ≡ None) → a ≡ None
none_by None one other = refl
none_by (Some kind) one other = other (λ none. grind arith)

-- a core asks for no line that it owns
pub owned_unasked : (posted : List Request) (c : ℕ) (k : CoreState) (line : ℕ) → IsSettled posted c k → mode_of line k.held ≡ Some Modified
    → asked_of line (request_of c posted) ≡ None
owned_unasked posted c k line f owned = none_by (asked_of line (request_of c posted)) (λ e. e) (λ some. absurd ((fit_of posted c k f line).unowned some owned))

-- the first line to write back: its state tells whether it is kept
pub waiting_state : (posted : List Request) (c : ℕ) (k : CoreState) (line : ℕ) → IsSettled posted c k → has_line line k.write_backs ≡ true
    → state_in posted c k line ≡ (if stays_shared posted k line then MSWB else MIWB)
unfolding state_in
waiting_state posted c k line f waits =
    let owned = f.back_owned line waits in
    rw (owned_unasked posted c k line f owned) rw owned rw waits refl

mode_written : (line : ℕ) (kept : Bool) (k : CoreState) → mode_of line k.held ≡ Some Modified → mode_of line (written_core line kept k).held ≡ (if kept then Some Shared else None)
mode_written line true k owned = grind (arith, mode_with_mode line line Shared k.held)
mode_written line false k owned = grind (arith, mode_without line line k.held)

mode_written_else : (line l : ℕ) (kept : Bool) (k : CoreState) → l ≢ line → mode_of l (written_core line kept k).held ≡ mode_of l k.held
mode_written_else line l true k away = grind (arith, mode_with_mode l line Shared k.held)
mode_written_else line l false k away = grind (arith, mode_without l line k.held)

pub writes_back : (posted : List Request) (c : ℕ) (k : CoreState) (line : ℕ) (lines : List ℕ) (kept : Bool) → IsSettled posted c k → k.write_backs ≡ line ∷ lines
    → stays_shared posted k line ≡ kept
    → next_of (state_in posted c k line) OwnBack ≡ Some (state_in posted c (written_core line kept k) line, if kept then Nothing else DropCopy)
unfolding state_in
writes_back posted c k line lines kept f first keep =
    let waits : has_line line k.write_backs ≡ true = grind arith in
    let owned = f.back_owned line waits in
    let j : CoreState = written_core line kept k in
    rw (owned_unasked posted c k line f owned) rw (mode_written line kept k owned) rw owned rw waits
    rw (← keep)
    (cell_back (stays_shared posted k line) (has_request line (behind_of c posted)) (has_write line (behind_of c posted))
    (has_line line j.write_backs) (stays_shared posted j line) (has_request line (behind_of c posted)) (has_write line (behind_of c posted)))

victim_else : (line l : ℕ) (want : Option Want) → l ≢ line → has_victim_for l (option_map (clear_victim line) want) ≡ has_victim_for l want
victim_else line l None away = refl
victim_else line l (Some want) away = grind arith

pub writes_back_else : (posted : List Request) (c : ℕ) (k : CoreState) (line l : ℕ) (lines : List ℕ) (kept : Bool) → k.write_backs ≡ line ∷ lines → l ≢ line
    → state_in posted c (written_core line kept k) l ≡ state_in posted c k l
unfolding state_in
writes_back_else posted c k line l lines kept first away =
    let j : CoreState = written_core line kept k in
    same_state (asked_of l (request_of c posted)) (asked_of l (request_of c posted))
    (mode_of l k.held) (mode_of l j.held) (has_line l k.write_backs) (has_line l j.write_backs)
    (stays_shared posted k l) (stays_shared posted j l)
    (has_request l (behind_of c posted)) (has_request l (behind_of c posted))
    (has_write l (behind_of c posted)) (has_write l (behind_of c posted))
    refl (mode_written_else line l kept k away) (grind arith) (grind (arith, victim_else line l k.want away)) (λ some. refl) (λ some. refl)

-- ---- post

abbrev pub want_request : ℕ → Want → Request
want_request c want = record { core = c; line = want.line; kind = want.kind }

pub own_posts : (posted : List Request) (c : ℕ) (slot : ℕ) (k : CoreState) (want : Want) → request_of c posted ≡ None → k.want ≡ Some want
    → (want.kind ≡ Read → mode_of want.line k.held ≡ None) → mode_of want.line k.held ≢ Some Modified
    → next_of (state_in posted c k want.line) (own_event want.kind) ≡ Some (state_in (posted ++ want_request c want ∷ []) c (posted_core slot k) want.line, Nothing)
unfolding state_in
own_posts posted c slot k want none is unheld unowned =
    let line : ℕ = want.line in let r : Request = want_request c want in
    rw none
    rw (let e : asked_of line (request_of c (posted ++ r ∷ [])) ≡ Some want.kind = grind (arith, request_more c posted r) in e)
    (cell_get want.kind (mode_of line k.held) (has_line line k.write_backs) (stays_shared posted k line)
    (has_request line (behind_of c posted)) (has_write line (behind_of c posted))
    (has_line line k.write_backs) (stays_shared (posted ++ r ∷ []) (posted_core slot k) line)
    (has_request line (behind_of c (posted ++ r ∷ []))) (has_write line (behind_of c (posted ++ r ∷ []))) unheld unowned
    (ap (has_request line) (behind_new posted r none)) (ap (has_write line) (behind_new posted r none)))

victim_posted : (slot l : ℕ) (want : Option Want) → has_victim_for l (option_map (post_at slot) want) ≡ has_victim_for l want
victim_posted slot l None = refl
victim_posted slot l (Some want) = refl

pub own_posts_else : (posted : List Request) (c : ℕ) (slot : ℕ) (k : CoreState) (want : Want) (l : ℕ) → request_of c posted ≡ None → l ≢ want.line
    → state_in (posted ++ want_request c want ∷ []) c (posted_core slot k) l ≡ state_in posted c k l
unfolding state_in
own_posts_else posted c slot k want l none away =
    let r : Request = want_request c want in let rs : List Request = posted ++ r ∷ [] in
    let j : CoreState = posted_core slot k in
    let free : asked_of l (request_of c posted) ≡ None = grind arith in
    same_state (asked_of l (request_of c posted)) (asked_of l (request_of c rs))
    (mode_of l k.held) (mode_of l j.held) (has_line l k.write_backs) (has_line l j.write_backs)
    (stays_shared posted k l) (stays_shared rs j l)
    (has_request l (behind_of c posted)) (has_request l (behind_of c rs))
    (has_write l (behind_of c posted)) (has_write l (behind_of c rs))
    (grind (arith, request_more c posted r)) refl refl (grind (arith, has_request_more l posted r, has_write_more l posted r, victim_posted slot l k.want))
    (λ some. absurd (some free)) (λ some. absurd (some free))
