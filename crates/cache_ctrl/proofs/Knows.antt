-- A list of states that has the named state of each line of a core, and how long it can be.
use Rattle.std.proofs.Common.{◌≡◌, ◌≢◌, ◌⊎◌, ℕ, ◌+◌, ◌<◌, ◌≤◌, length, List, [], ◌∷◌, ◌++◌, Bool, true, false, not, Option, Some, None, ◌==◌, ◌&&◌, ◌||◌, if◌then◌else◌, refl, sym, ap, ◌∙◌, inl, inr, arith}
use mathlib.Core.Logic.{dite}
use native.Mathlib.Decide.{ℕ_discrete}
use Rattle.pmsi_model.specs.declared.Kind.{Kind}
use Rattle.pmsi_model.specs.declared.Kind.TheVariants.{Read, Write}
use Rattle.pmsi_model.specs.declared.Mode.{Mode}
use Rattle.pmsi_model.specs.declared.Mode.TheVariants.{Shared, Modified}
use Rattle.pmsi_model.specs.declared.State.{State}
use Rattle.pmsi_model.specs.Machine.{CoreState, Request, mode_of, has_line, has_request, has_write, request_of}
use Rattle.pmsi_model.specs.Named.{named, asked_of, behind_of, state_in, stays_shared}
use Rattle.pmsi_model.proofs.WriteBacks.{without_line, line_less}
use Rattle.pmsi_model.specs.declared.limits.TheConstants.{MAX_CORES}
use Rattle.cache_ctrl.specs.declared.states.TheConstants.{STATES_ROOM}
use Rattle.cache_ctrl.specs.declared.Event.{Event}
use Rattle.cache_ctrl.specs.declared.Duty.{Duty}
use Rattle.cache_ctrl.specs.declared.states.LineState.{LineState}
use Rattle.cache_ctrl.specs.Table.{next_of}
use Rattle.cache_ctrl.specs.States.{is_stable, stable_of, state_at, other_states, listed, with_state, has_entry, AreTransient, Knows}
use Rattle.cache_ctrl.proofs.Listed.{state_set, fewer_others}

-- ---- stable states

named_stable : (a : Option Kind) (m : Option Mode) (w s b wb : Bool) → is_stable (named a m w s b wb) ≡ true → stable_of m ≡ named a m w s b wb
named_stable None None w s b wb is = refl
named_stable None (Some Shared) w s b wb is = refl
named_stable None (Some Modified) w s b wb is = grind arith
named_stable (Some Read) m w s b wb is = absurd (grind arith)
named_stable (Some Write) m w s b wb is = absurd (grind arith)

-- a stable state is that of the line's mode
pub stable_state_of : (posted : List Request) (c : ℕ) (k : CoreState) (line : ℕ) → is_stable (state_in posted c k line) ≡ true
    → stable_of (mode_of line k.held) ≡ state_in posted c k line
unfolding state_in
stable_state_of posted c k line is =
    named_stable (asked_of line (request_of c posted)) (mode_of line k.held) (has_line line k.write_backs) (stays_shared posted k line)
    (has_request line (behind_of c posted)) (has_write line (behind_of c posted)) is

named_transient : (a : Option Kind) (m : Option Mode) (w s b wb : Bool) → is_stable (named a m w s b wb) ≡ false → (w ≡ true) ⊎ (a ≢ None)
named_transient None None w s b wb is = absurd (grind arith)
named_transient None (Some Shared) w s b wb is = absurd (grind arith)
named_transient None (Some Modified) true s b wb is = inl refl
named_transient None (Some Modified) false s b wb is = absurd (grind arith)
named_transient (Some kind) m w s b wb is = inr (λ none. grind arith)

-- a state that isn't stable is that of a line to write back, or of the line that the core's posted request is for
pub transient_state_of : (posted : List Request) (c : ℕ) (k : CoreState) (line : ℕ) → is_stable (state_in posted c k line) ≡ false
    → (has_line line k.write_backs ≡ true) ⊎ (asked_of line (request_of c posted) ≢ None)
unfolding state_in
transient_state_of posted c k line is =
    named_transient (asked_of line (request_of c posted)) (mode_of line k.held) (has_line line k.write_backs) (stays_shared posted k line)
    (has_request line (behind_of c posted)) (has_write line (behind_of c posted)) is

-- ---- the list after a step

by_same : (l line : ℕ) (t e r : State) → (l ≡ line → r ≡ t) → (l ≢ line → r ≡ e) → (if line == l then t else e) ≡ r
by_same l line t e r same other = dite (ℕ_discrete l line) (λ s. grind (arith, same s)) (λ o. grind (arith, other o))

by_stable : (s t : State) → (is_stable s ≡ true → t ≡ s) → s ≡ (if is_stable s then t else s)
by_stable s t same = grind (arith, same)

-- a line's state changed, and no other's
pub knows_set : (es : List LineState) (k j : CoreState) (old new : ℕ → State) (line : ℕ) → Knows es k old
    → ((l : ℕ) → l ≢ line → new l ≡ old l) → ((l : ℕ) → l ≢ line → mode_of l j.held ≡ mode_of l k.held)
    → (is_stable (new line) ≡ true → stable_of (mode_of line j.held) ≡ new line)
    → Knows (with_state line (new line) es) j new
knows_set es k j old new line knows others modes stable l =
    state_set l line (mode_of l j.held) (new line) es
    ∙ by_same l line (if is_stable (new line) then stable_of (mode_of l j.held) else new line) (state_at l (mode_of l j.held) es) (new l)
    (λ same. rw same (by_stable (new line) (stable_of (mode_of line j.held)) stable))
    (λ away. others l away ∙ sym (knows l) ∙ ap (λ m. state_at l m es) (sym (modes l away)))

-- no line's state changed, nor its mode
pub knows_same : (es : List LineState) (k j : CoreState) (old new : ℕ → State) → Knows es k old
    → ((l : ℕ) → new l ≡ old l) → ((l : ℕ) → mode_of l j.held ≡ mode_of l k.held) → Knows es j new
knows_same es k j old new knows others modes l = ap (λ m. state_at l m es) (modes l) ∙ knows l ∙ sym (others l)

-- the same, for the states of the machine: only the modes of the other lines are asked about
pub knows_step : (posted posted' : List Request) (c : ℕ) (k j : CoreState) (line : ℕ) (es : List LineState) → Knows es k (state_in posted c k)
    → ((l : ℕ) → l ≢ line → state_in posted' c j l ≡ state_in posted c k l) → ((l : ℕ) → l ≢ line → mode_of l j.held ≡ mode_of l k.held)
    → Knows (with_state line (state_in posted' c j line) es) j (state_in posted' c j)
knows_step posted posted' c k j line es knows others modes =
    knows_set es k j (state_in posted c k) (state_in posted' c j) line knows others modes (stable_state_of posted' c j line)

-- an entry for the listed state is the one for the machine's
pub known_entry : (es : List LineState) (k : CoreState) (states : ℕ → State) (line : ℕ) (event : Event) (r : State × Duty) → Knows es k states
    → next_of (states line) event ≡ Some r → next_of (state_at line (mode_of line k.held) es) event ≡ Some r
known_entry es k states line event r knows entry = rw (knows line) entry

-- ---- how long the list is

entry_others : (l line : ℕ) (es : List LineState) → has_entry l (other_states line es) ≡ (has_entry l es && not (l == line))
entry_others l line [] = refl
entry_others l line (e ∷ es) = grind (arith, entry_others l line es)

entry_more : (l : ℕ) (es fs : List LineState) → has_entry l (es ++ fs) ≡ (has_entry l es || has_entry l fs)
entry_more l [] fs = refl
entry_more l (e ∷ es) fs = grind (arith, entry_more l es fs)

transient_others : (line : ℕ) (es : List LineState) → AreTransient es → AreTransient (other_states line es)
transient_others line [] are = are
transient_others line (e ∷ es) are = grind (arith, transient_others line es are.2, entry_others e.line line es, are.0, are.1)

transient_more : (line : ℕ) (state : State) (es : List LineState) → AreTransient es → has_entry line es ≡ false → AreTransient (es ++ listed line state)
transient_more line state [] are new = grind arith
transient_more line state (e ∷ es) are new = grind (arith, transient_more line state es are.2, entry_more e.line es (listed line state), are.0, are.1)

-- the entries stay transient, each once
pub transient_set : (line : ℕ) (state : State) (es : List LineState) → AreTransient es → AreTransient (with_state line state es)
transient_set line state es are =
    transient_more line state (other_states line es) (transient_others line es are) (grind (arith, entry_others line line es))

shorter_without : (line : ℕ) (backs : List ℕ) → length (without_line line backs) ≤ length backs
shorter_without line [] = grind arith
shorter_without line (l ∷ ls) = grind (arith, shorter_without line ls)

less_without : (line : ℕ) (backs : List ℕ) → has_line line backs ≡ true → length (without_line line backs) + 1 ≤ length backs
less_without line [] is = absurd (grind arith)
less_without line (l ∷ ls) is = grind (arith, shorter_without line ls, less_without line ls)

pub all_among : (es : List LineState) (backs : List ℕ) → AreTransient es → ((l : ℕ) → has_entry l es ≡ true → has_line l backs ≡ true) → length es ≤ length backs
all_among [] backs are each = grind arith
all_among (e ∷ es) backs are each =
    let here : has_line e.line backs ≡ true = each e.line (grind arith) in
    let rest = all_among es (without_line e.line backs) are.2 (λ l is. grind (arith, line_less l e.line backs, each l, are.1)) in
    let less = less_without e.line backs here in omega arith

-- each listed line, but one, is among some lines
pub all_but_one : (es : List LineState) (backs : List ℕ) (w : ℕ) → AreTransient es → ((l : ℕ) → has_entry l es ≡ true → l ≢ w → has_line l backs ≡ true)
    → length es ≤ length backs + 1
all_but_one [] backs w are each = grind arith
all_but_one (e ∷ es) backs w are each = dite (ℕ_discrete e.line w)
    (λ same. let rest = all_among es backs are.2 (λ l is. each l (grind arith) (λ e'. grind (arith, are.1))) in omega arith)
    (λ away. let here : has_line e.line backs ≡ true = each e.line (grind arith) away in
    let rest = all_but_one es (without_line e.line backs) w are.2 (λ l is other. grind (arith, line_less l e.line backs, each l (grind arith) other, are.1)) in
    let less = less_without e.line backs here in omega arith)

-- a listed line's state isn't stable
pub entry_transient : (l : ℕ) (mode : Option Mode) (es : List LineState) → AreTransient es → has_entry l es ≡ true → is_stable (state_at l mode es) ≡ false
entry_transient l mode [] are is = absurd (grind arith)
entry_transient l mode (e ∷ es) are is = grind (arith, entry_transient l mode es are.2, are.0)

abbrev line_of_request : Option Request → ℕ
line_of_request None = 0
line_of_request (Some r) = r.line

asked_line : (line : ℕ) (o : Option Request) → asked_of line o ≢ None → line ≡ line_of_request o
asked_line line None some = absurd (some refl)
asked_line line (Some r) some = grind arith

by_side : (backs : List ℕ) (o : Option Request) (l : ℕ) → (has_line l backs ≡ true) ⊎ (asked_of l o ≢ None) → l ≢ line_of_request o → has_line l backs ≡ true
by_side backs o l (inl waits) away = waits
by_side backs o l (inr some) away = absurd (away (asked_line l o some))

-- the list of a core's states is at most one longer than its lines to write back
pub knows_within : (posted : List Request) (c : ℕ) (k : CoreState) (es : List LineState) → AreTransient es → Knows es k (state_in posted c k)
    → length es ≤ length k.write_backs + 1
knows_within posted c k es are knows =
    all_but_one es k.write_backs (line_of_request (request_of c posted)) are
    (λ l is away. by_side k.write_backs (request_of c posted) l
    (transient_state_of posted c k l (ap is_stable (sym (knows l)) ∙ entry_transient l (mode_of l k.held) es are is)) away)

-- so there is room for one more
pub knows_room : (posted : List Request) (c : ℕ) (k : CoreState) (es : List LineState) (line : ℕ) → AreTransient es → Knows es k (state_in posted c k)
    → length k.write_backs ≤ MAX_CORES → length (other_states line es) < STATES_ROOM
knows_room posted c k es line are knows within =
    let few = fewer_others line es in let most = knows_within posted c k es are knows in omega arith
