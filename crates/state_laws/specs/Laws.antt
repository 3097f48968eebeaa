-- The named states change by the table: what happens to a line in a slot, as events in order, and the laws.
use Rattle.std.specs.Prelude.{◌≡◌, ◌≢◌, ℕ, zero, suc, ◌+◌, ◌++◌, ◌<◌, List, [], ◌∷◌, ◌==◌, Option, Some, None, if◌then◌else◌}
use Rattle.pmsi_model.specs.declared.Action.{Action}
use Rattle.pmsi_model.specs.declared.Action.TheVariants.{Idle, Post, Fill, PostFill, Back}
use Rattle.pmsi_model.specs.declared.State.{State}
use Rattle.pmsi_model.specs.declared.job.Geometry.{Geometry}
use Rattle.pmsi_model.specs.declared.Mode.{Mode}
use Rattle.pmsi_model.specs.Geometry.{line_of}
use Rattle.pmsi_model.specs.Effect.{Effect, Next, Memory, Stop}
use Rattle.pmsi_model.specs.Machine.{CoreState}
use Rattle.pmsi_model.specs.Phase.{Context, can_run, effect_at, evicted, is_permitted, instructions, context_of}
use Rattle.pmsi_model.specs.Job.{JobValue, IsJob, text_of}
use Rattle.pmsi_model.specs.Slots.{plan_of, owner_of_slot}
use Rattle.pmsi_model.specs.Bus.{kind_of_name}
use Rattle.pmsi_model.specs.Run.{after_phases, machine_at, record_at}
use Rattle.cache_ctrl.specs.declared.Event.{Event}
use Rattle.cache_ctrl.specs.declared.Event.TheVariants.{OwnFill, OwnBack, Choose}
use Rattle.cache_ctrl.specs.declared.Duty.{Duty}
use Rattle.cache_ctrl.specs.Table.{next_of}
use Rattle.pmsi_model.specs.Named.{state_of}
use Rattle.cache_ctrl.specs.Duties.{own_event, other_event}

-- ---- states after events

-- the state that an entry of the table leads to
abbrev pub after_entry : Option (State × Duty) → Option State
after_entry None = None
after_entry (Some r) = Some r.0

-- the state after one event; none, where the table has no entry
abbrev pub next_from : Option State → Event → Option State
next_from None e = None
next_from (Some s) e = after_entry (next_of s e)

-- the state after some events
abbrev pub next_all : Option State → List Event → Option State
next_all s [] = s
next_all s (e ∷ es) = next_all (next_from s e) es

-- ---- the events of an action

-- what an action is for a line in the core that does it
abbrev pub own_events : Action → ℕ → List Event
own_events Idle line = []
own_events (Post name l) line = if line == l then own_event (kind_of_name name) ∷ [] else []
own_events (PostFill name l) line = if line == l then own_event (kind_of_name name) ∷ OwnFill ∷ [] else []
own_events (Fill l) line = if line == l then OwnFill ∷ [] else []
own_events (Back l kept) line = if line == l then OwnBack ∷ [] else []

-- what it is in another core: a post alone is seen
abbrev pub seen_events : Action → ℕ → List Event
seen_events Idle line = []
seen_events (Post name l) line = if line == l then other_event (kind_of_name name) ∷ [] else []
seen_events (PostFill name l) line = if line == l then other_event (kind_of_name name) ∷ [] else []
seen_events (Fill l) line = []
seen_events (Back l kept) line = []

-- what an action of core `by` is for a line in core c
abbrev pub events_of : ℕ → ℕ → Action → ℕ → List Event
events_of by c action line = if c == by then own_events action line else seen_events action line

-- ---- the events of a phase

-- the line of a held line that was chosen
abbrev pub gone_line : Option (ℕ × Mode) → Option ℕ
gone_line None = None
gone_line (Some h) = Some h.0

-- the line that an effect chooses to go: one of an access without permission, where its set is full
abbrev pub chosen_by : Geometry → CoreState → Effect → Option ℕ
chosen_by shape k (Next regs pc) = None
chosen_by shape k (Stop halt) = None
chosen_by shape k (Memory access) = if is_permitted shape access k then None else gone_line (evicted shape (line_of shape access.address) k.held)

-- the line that a core's next instruction chooses to go
abbrev pub chosen_at : Geometry → List ℕ → CoreState → Option ℕ
chosen_at shape text k = if can_run k then chosen_by shape k (effect_at shape text k) else None

-- what a choice is for a line
abbrev pub choice_events : Option ℕ → ℕ → List Event
choice_events None line = []
choice_events (Some l) line = if line == l then Choose ∷ [] else []

-- the events of so many instructions, from a context on
unfoldable pub phase_events : Geometry → ℕ → List ℕ → ℕ → Context → ℕ → List Event
phase_events shape slot text zero x line = []
phase_events shape slot text (suc count) x line =
    phase_events shape slot text count x line ++ choice_events (chosen_at shape text (instructions shape slot text count x).core) line

-- ---- the events of a slot

-- the slot's action, for a line in core c
abbrev pub action_events : JobValue → ℕ → ℕ → ℕ → List Event
action_events job slot c line = events_of (owner_of_slot (plan_of job) slot) c (record_at job slot) line

-- core c's phase, and then the action
abbrev pub slot_events : JobValue → ℕ → ℕ → ℕ → List Event
slot_events job slot c line =
    phase_events job.shape slot (text_of job c) job.shape.quantum (context_of (machine_at job slot) c) line ++ action_events job slot c line

-- ---- the laws

-- from boundary to boundary
abbrev pub StatesFollow : Type 0
StatesFollow = (job : JobValue) → IsJob job → (slot c line : ℕ) → c < job.shape.cores →
    next_all (Some (state_of (machine_at job slot) c line)) (slot_events job slot c line) ≡ Some (state_of (machine_at job (slot + 1)) c line)

-- from the phases of a slot to the next boundary
abbrev pub ActionsFollow : Type 0
ActionsFollow = (job : JobValue) → IsJob job → (slot c line : ℕ) → c < job.shape.cores →
    next_all (Some (state_of (after_phases job (machine_at job slot)) c line)) (action_events job slot c line)
    ≡ Some (state_of (machine_at job (slot + 1)) c line)

-- each of these events, from this state on, has an entry
abbrev pub HaveEntries : State → List Event → Type 0
HaveEntries s [] = Unit {0}
HaveEntries s (e ∷ es) = (next_of s e ≢ None) × ((t : State) (duty : Duty) → next_of s e ≡ Some (t, duty) → HaveEntries t es)

-- a pair of state and event without an entry is never met
abbrev pub NeverWithoutEntry : Type 0
NeverWithoutEntry = (job : JobValue) → IsJob job → (slot c line : ℕ) → c < job.shape.cores →
    HaveEntries (state_of (machine_at job slot) c line) (slot_events job slot c line)
