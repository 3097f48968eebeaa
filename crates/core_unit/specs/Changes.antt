-- How the state of a line changes in a core, by the table alone, and what the core then does.
use Rattle.std.specs.Prelude.{◌≡◌, ◌≢◌, ℕ, ◌<◌, List, length, Bool, true, false, Option, Some, None}
use Rattle.pmsi_model.specs.declared.Mode.{Mode}
use Rattle.pmsi_model.specs.declared.Mode.TheVariants.{Shared, Modified}
use Rattle.pmsi_model.specs.declared.State.{State as LineName}
use Rattle.pmsi_model.specs.declared.State.TheVariants.{S, M, MSWB, MIWB}
use Rattle.pmsi_model.specs.Machine.{mode_of, has_line}
use Rattle.cache_ctrl.specs.declared.Duty.{Duty}
use Rattle.cache_ctrl.specs.declared.Duty.TheVariants.{Nothing, Append, DropCopy}
use Rattle.cache_ctrl.specs.declared.Event.{Event}
use Rattle.cache_ctrl.specs.declared.states.LineState.{LineState}
use Rattle.cache_ctrl.specs.declared.states.TheConstants.{STATES_ROOM}
use Rattle.cache_ctrl.specs.Duties.{backs_by}
use Rattle.cache_ctrl.specs.States.{state_at, with_state}
use Rattle.cache_ctrl.specs.Table.{next_of}
use Rattle.cache_array.specs.declared.line.CachedLine.{CachedLine}
use Rattle.cache_array.specs.Cache.{Holds, held_of, others}
use Rattle.core_unit.specs.declared.state.State.{State}

-- the state of a line, by the listed states and the mode in which the line is held
abbrev pub state_name : ℕ → State → LineName
state_name line v = state_at line (mode_of line (held_of v.cache.lines)) v.states

-- what the table has for an event in the state of a line: the new state and the core's duty
unfoldable pub next_in : Event → ℕ → List LineState → List CachedLine → Option (LineName × Duty)
next_in event line states lines = next_of (state_at line (mode_of line (held_of lines)) states) event

-- the same of a core
abbrev pub next_for : Event → ℕ → State → Option (LineName × Duty)
next_for event line v = next_in event line v.states v.cache.lines

-- ---- a duty is done

-- the duty of an entry of the table
abbrev pub duty_in : Option (LineName × Duty) → Duty
duty_in None = Nothing
duty_in (Some next) = next.1

-- the cached lines after a duty
abbrev pub lines_by : Duty → ℕ → List CachedLine → List CachedLine
lines_by Nothing line lines = lines
lines_by Append line lines = lines
lines_by DropCopy line lines = others line lines

-- a copy is dropped, or the line goes last among those to write back
abbrev pub with_duty : Duty → ℕ → State → State
with_duty duty line v = record v {
  cache = record v.cache { lines = lines_by duty line v.cache.lines };
  pending = record v.pending { write_backs = backs_by duty line v.pending.write_backs };
}

-- ---- the change

-- the listed states after an entry of the table
abbrev pub states_in : Option (LineName × Duty) → ℕ → List LineState → List LineState
states_in None line states = states
states_in (Some next) line states = with_state line next.0 states

-- the state after an entry of the table
abbrev pub changed_by : Option (LineName × Duty) → ℕ → State → State
changed_by next line v = record (with_duty (duty_in next) line v) { states = states_in next line v.states }

-- an event changes the state of a line, and the core does its duty
abbrev pub changed : Event → ℕ → State → State
changed event line v = changed_by (next_for event line v) line v

-- ---- readings of a state

-- the mode in which a line comes into the cache, by its state once its request is served
abbrev pub mode_in_state : LineName → Option Mode
mode_in_state S = Some Shared
mode_in_state M = Some Modified
mode_in_state MSWB = Some Modified
mode_in_state MIWB = Some Modified
mode_in_state state = None

-- a line that is written back in this state stays shared
abbrev pub stays_in : LineName → Bool
stays_in MSWB = true
stays_in state = false

-- ---- what has to hold before

-- a dropped copy is held; a line that is to be written back isn't in the write-back queue yet, which has room
abbrev pub CanDo : Duty → ℕ → State → Type 0
CanDo Nothing line v = Unit {0}
CanDo Append line v = (has_line line v.pending.write_backs ≡ false) × (length v.pending.write_backs < v.pending.cores)
CanDo DropCopy line v = Holds line v.cache.lines

-- an event comes in the state of a line, and the core has room for the new state and its duty
pub record CanChange (event : Event) (line : ℕ) (v : State) : Type 0 where
  pub comes : next_for event line v ≢ None
  pub room : length v.states < STATES_ROOM
  pub duty : CanDo (duty_in (next_for event line v)) line v
