-- What the table has for an event in the state of a line.
use Rattle.std.proofs.Common.{◌≡◌, ◌⊎◌, ℕ, ◌<◌, List, drop, length, true, Option, Some, refl, sym, ap, ◌∙◌, subst, arith}
use Rattle.pmsi_model.specs.declared.job.Geometry.{Geometry}
use Rattle.pmsi_model.specs.declared.Kind.{Kind}
use Rattle.pmsi_model.specs.declared.Kind.TheVariants.{Read, Write}
use Rattle.pmsi_model.specs.declared.Mode.{Mode}
use Rattle.pmsi_model.specs.declared.State.{State as LineName}
use Rattle.pmsi_model.specs.declared.State.TheVariants.{I, S, MSWB}
use Rattle.pmsi_model.specs.declared.Want.{Want}
use Rattle.pmsi_model.specs.Machine.{mode_of}
use Rattle.pmsi_model.specs.Phase.{set_lines}
use Rattle.cache_ctrl.specs.declared.Duty.{Duty}
use Rattle.cache_ctrl.specs.declared.Duty.TheVariants.{Nothing, Append, DropCopy}
use Rattle.cache_ctrl.specs.declared.Event.{Event}
use Rattle.cache_ctrl.specs.declared.Event.TheVariants.{OwnBack, OwnFill}
use Rattle.cache_ctrl.specs.declared.states.LineState.{LineState}
use Rattle.cache_ctrl.specs.Duties.{own_event}
use Rattle.cache_ctrl.specs.States.{state_at, with_state}
use Rattle.cache_ctrl.specs.Table.{next_of}
use Rattle.cache_array.specs.declared.line.CachedLine.{CachedLine}
use Rattle.cache_array.specs.Cache.{Holds, held_of}
use Rattle.pend_buffers.specs.Pending.{PendingValue}
use Rattle.core_unit.specs.declared.state.State.{State}
use Rattle.core_unit.specs.Changes.{CanDo, changed, changed_by, duty_in, lines_by, next_for, next_in, state_name, stays_in, with_duty}
use Rattle.core_unit.specs.State.{asked, keeps}
use Rattle.core_unit.specs.Stands.{CanTake}

pub next_is : (event : Event) (line : ℕ) (v : State) → next_for event line v ≡ next_of (state_name line v) event
unfolding next_in
next_is event line v = refl

-- the table's entry as a step finds it
pub entry_for : (event : Event) (line : ℕ) (mode : Option Mode) (v : State) (next : LineName × Duty) → mode ≡ mode_of line (held_of v.cache.lines)
    → next_of (state_at line mode v.states) event ≡ Some next → next_for event line v ≡ Some next
entry_for event line mode v next held entry = next_is event line v ∙ ap (λ (m : Option Mode). next_of (state_at line m v.states) event) (sym held) ∙ entry

-- a duty doesn't look at the states
duty_stays : (duty : Duty) (line : ℕ) (v : State) (states : List LineState) → CanDo duty line v → CanDo duty line (record v { states = states })
duty_stays Nothing line v states can = can
duty_stays Append line v states can = can
duty_stays DropCopy line v states can = can

pub duty_can : (event : Event) (line : ℕ) (v : State) (states : List LineState) (next : LineName × Duty) → next_for event line v ≡ Some next
    → CanDo (duty_in (next_for event line v)) line v → CanDo next.1 line (record v { states = states })
duty_can event line v states next is can = duty_stays next.1 line v states (subst (λ (o : Option (LineName × Duty)). CanDo (duty_in o) line v) is can)

-- a state once its line changed, as the code makes it
pub changed_is : (event : Event) (line : ℕ) (v u : State) (states : List LineState) (next : LineName × Duty) → next_for event line v ≡ Some next
    → states ≡ with_state line next.0 v.states → u ≡ with_duty next.1 line (record v { states = states }) → u ≡ changed event line v
changed_is event line v u states next is listed done =
    done ∙ ap (λ (es : List LineState). with_duty next.1 line (record v { states = es })) listed
    ∙ ap (λ (o : Option (LineName × Duty)). changed_by o line v) (sym is)

-- ---- events at which no copy is dropped

posted_lines : (kind : Kind) (old : LineName) (line : ℕ) (lines : List CachedLine) → lines_by (duty_in (next_of old (own_event kind))) line lines ≡ lines
posted_lines Read I line lines = refl
posted_lines Write I line lines = refl
posted_lines Write S line lines = refl
posted_lines kind old line lines = grind arith

-- the core's own post
pub asked_lines : (want : Want) (v : State) → (asked want v).cache.lines ≡ v.cache.lines
asked_lines want v = ap (λ (o : Option (LineName × Duty)). lines_by (duty_in o) want.line v.cache.lines) (next_is (own_event want.kind) want.line v)
    ∙ posted_lines want.kind (state_name want.line v) want.line v.cache.lines

served_lines : (old : LineName) (line : ℕ) (lines : List CachedLine) → lines_by (duty_in (next_of old OwnFill)) line lines ≡ lines
served_lines old line lines = grind arith

-- a fill: the line has room still
pub fits_still : (want : Want) (words : List ℕ) (v u : State) → CanTake want words v → u ≡ changed OwnFill want.line v
    → Holds want.line u.cache.lines ⊎ (length (set_lines u.cache.shape want.line (held_of u.cache.lines)) < u.cache.shape.ways)
fits_still want words v u can is =
    let same : u.cache.lines ≡ v.cache.lines = ap (λ (w : State). w.cache.lines) is
    ∙ ap (λ (o : Option (LineName × Duty)). lines_by (duty_in o) want.line v.cache.lines) (next_is OwnFill want.line v)
    ∙ served_lines (state_name want.line v) want.line v.cache.lines in
    let shape : u.cache.shape ≡ v.shape = ap (λ (w : State). w.cache.shape) is ∙ can.cache in
    subst (λ (g : Geometry). Holds want.line u.cache.lines ⊎ (length (set_lines g want.line (held_of u.cache.lines)) < g.ways)) (sym shape)
    (subst (λ (lines : List CachedLine). Holds want.line lines ⊎ (length (set_lines v.shape want.line (held_of lines)) < v.shape.ways)) (sym same) can.fits)

kept_lines : (old : LineName) (line : ℕ) (lines : List CachedLine) → stays_in old ≡ true → lines_by (duty_in (next_of old OwnBack)) line lines ≡ lines
kept_lines MSWB line lines stays = refl
kept_lines old line lines stays = absurd (grind arith)

-- a write-back of a line that stays
pub kept_held : (line : ℕ) (v : State) → keeps line v ≡ true → Holds line v.cache.lines → Holds line (changed OwnBack line v).cache.lines
kept_held line v kept held =
    subst (λ (lines : List CachedLine). Holds line lines)
    (sym (ap (λ (o : Option (LineName × Duty)). lines_by (duty_in o) line v.cache.lines) (next_is OwnBack line v) ∙ kept_lines (state_name line v) line v.cache.lines kept)) held

-- the first line is popped, as the code has it
pub popped_is : (v : State) (p : PendingValue) → p ≡ record v.pending { write_backs = drop 1 v.pending.write_backs }
    → (let q : PendingValue = record v.pending { write_backs = p.write_backs } in q) ≡ p
popped_is v p is = ap (λ (q : PendingValue). let r : PendingValue = record v.pending { write_backs = q.write_backs } in r) is ∙ sym is
