-- What the parts of a slot do to a core.
use Rattle.std.specs.Prelude.{◌≡◌, ℕ, ◌+◌, List, [], ◌∷◌, ◌++◌, slice_index, slice_set, Bool, false, Option, Some, None, if◌then◌else◌}
use Rattle.std.specs.Option.{option_map}
use Rattle.pmsi_model.specs.declared.job.Geometry.{Geometry}
use Rattle.pmsi_model.specs.declared.Access.{Access}
use Rattle.pmsi_model.specs.declared.AccessOp.{AccessOp}
use Rattle.pmsi_model.specs.declared.Action.{Action}
use Rattle.pmsi_model.specs.declared.Action.TheVariants.{Idle, Post, Fill, PostFill, Back}
use Rattle.pmsi_model.specs.declared.Kind.{Kind}
use Rattle.pmsi_model.specs.declared.Kind.TheVariants.{Read, Write}
use Rattle.pmsi_model.specs.declared.Mode.{Mode}
use Rattle.pmsi_model.specs.declared.Mode.TheVariants.{Shared}
use Rattle.pmsi_model.specs.declared.Name.{Name}
use Rattle.pmsi_model.specs.declared.Row.{Row}
use Rattle.pmsi_model.specs.declared.State.{State as LineName}
use Rattle.pmsi_model.specs.declared.Touch.{Touch}
use Rattle.pmsi_model.specs.declared.Turn.TheVariants.{Request as RequestTurn, WriteBack as WriteBackTurn}
use Rattle.pmsi_model.specs.declared.Want.{Want}
use Rattle.pmsi_model.specs.Geometry.{line_of}
use Rattle.pmsi_model.specs.Words.{number_of}
use Rattle.pmsi_model.specs.Access.{access_bytes, access_value, kind_of, width_of}
use Rattle.rv_exec.specs.Accesses.{bytes_after, covered}
use Rattle.pmsi_model.specs.Effect.{with_reg, next_pc}
use Rattle.pmsi_model.specs.Machine.{CoreState, mode_of}
use Rattle.pmsi_model.specs.Phase.{evicted, victim_of}
use Rattle.pmsi_model.specs.Bus.{clear_victim, kind_of_name, name_of, post_at}
use Rattle.pmsi_model.specs.Shared.{SharedValue, line_in, fills_at_once as at_once}
use Rattle.cache_ctrl.specs.declared.Duty.{Duty}
use Rattle.cache_ctrl.specs.declared.Event.TheVariants.{OwnFill, OwnBack, Choose}
use Rattle.cache_ctrl.specs.Duties.{other_event, own_event}
use Rattle.cache_array.specs.declared.line.CachedLine.{CachedLine}
use Rattle.cache_array.specs.Cache.{CacheValue, held_of, words_of, word_place, way_of, with_word, with_line_mode, put_first}
use Rattle.core_unit.specs.declared.state.State.{State}
use Rattle.core_unit.specs.Changes.{changed, mode_in_state, next_for, state_name, stays_in}

-- what the machine has of a core
abbrev pub core_of : State → CoreState
core_of v = record {
  regs = v.regs;
  pc = v.pc;
  status = v.status;
  retired = v.retired;
  held = held_of v.cache.lines;
  want = v.pending.want;
  write_backs = v.pending.write_backs;
  turn = v.pending.turn;
}

-- the state with another want
abbrev pub with_want : Option Want → State → State
with_want want v = record v { pending = record v.pending { want = want } }

-- the state with other cached lines
abbrev pub with_lines : List CachedLine → State → State
with_lines lines v = record v { cache = record v.cache { lines = lines } }

-- ---- an access with permission

-- each line stands in its way as before
abbrev pub KeepsWays : List CachedLine → List CachedLine → Type 0
KeepsWays before after = (line : ℕ) → way_of line after ≡ way_of line before

-- only a write changes the word
abbrev pub lines_after : Kind → ℕ → ℕ → ℕ → List CachedLine → List CachedLine
lines_after Read line place word lines = lines
lines_after Write line place word lines = with_word line place word lines

-- the lines where an operation left a word at an address
abbrev pub lines_left : AccessOp → ℕ → ℕ → CacheValue → List CachedLine
lines_left op address word cache = lines_after (kind_of op) (line_of cache.shape address) (word_place cache.shape address) word cache.lines

-- the cached word that an access meets
abbrev pub met_in : Access → CacheValue → ℕ
met_in access cache = slice_index (words_of (line_of cache.shape access.address) cache.lines) (word_place cache.shape access.address)

-- and the lines once it is done
abbrev pub lines_with : Access → CacheValue → List CachedLine
lines_with access cache = lines_left access.op access.address (number_of (bytes_after access (met_in access cache))) cache

-- the note of an access that met this word
abbrev pub touch_on : Access → ℕ → State → Touch
touch_on access word v = record {
  slot = v.slot;
  core = v.number;
  address = access.address;
  width = width_of access.op;
  kind = kind_of access.op;
  old = number_of (covered access word);
  new = number_of (access_bytes access.op access.operand (covered access word));
}

-- accesses go last, where they are kept
abbrev pub more_touches : Bool → List Touch → List Touch → List Touch
more_touches keeps touches more = if keeps then touches ++ more else touches

abbrev pub with_touch : Touch → State → State
with_touch touch v = record v { touches = record v.touches { items = more_touches v.keeps v.touches.items (touch ∷ []) } }

-- an access that met this word gives its value, and its instruction retires
abbrev pub retired_on : Access → ℕ → State → State
retired_on access word v = record (with_touch (touch_on access word v) v) {
  regs = with_reg v.regs access.rd (access_value access.op (covered access word));
  pc = next_pc v.pc;
  retired = v.retired + 1;
}

-- the access is done on the cached line
abbrev pub performed : Access → State → State
performed access v = record (retired_on access (met_in access v.cache) v) { cache = record v.cache { lines = lines_with access v.cache } }

-- ---- a miss

-- the line that leaves the set
abbrev pub gone_for : ℕ → State → Option (ℕ × Mode)
gone_for line v = evicted v.cache.shape line (held_of v.cache.lines)

-- its state changes: a shared line is dropped, and one that the core owns is to be written back
abbrev pub chosen : Option (ℕ × Mode) → State → State
chosen None v = v
chosen (Some h) v = changed Choose h.0 v

-- room is made for a line
abbrev pub with_room : ℕ → State → State
with_room line v = chosen (gone_for line v) v

abbrev pub wanting : Access → ℕ → State → State
wanting access line v = record (with_room line v) {
  pending = record (with_room line v).pending {
    want = Some (record { line = line; kind = kind_of access.op; issue = v.slot; post = None; victim = victim_of (gone_for line v); access = access });
  };
}

-- ---- a request is served

-- the word of a line that an access meets
abbrev pub met_among : Geometry → Access → List ℕ → ℕ
met_among shape access words = slice_index words (word_place shape access.address)

-- and the words of the line once it is done
abbrev pub words_with : Geometry → Access → List ℕ → List ℕ
words_with shape access words = slice_set words (word_place shape access.address) (number_of (bytes_after access (met_among shape access words)))

-- a line comes into the cache in this mode, or not at all
abbrev pub lines_taken : Option Mode → Geometry → ℕ → List ℕ → List CachedLine → List CachedLine
lines_taken None shape line words lines = lines
lines_taken (Some mode) shape line words lines = put_first shape line mode words lines

-- the mode by the new state of the line
abbrev pub mode_filled : Option (LineName × Duty) → Option Mode
mode_filled None = None
mode_filled (Some next) = mode_in_state next.0

-- the state of the line changes, and it comes into the cache as it is once the access is done
abbrev pub with_filled : Want → List ℕ → State → State
with_filled want words v =
    let u : State = changed OwnFill want.line v in
    with_lines (lines_taken (mode_filled (next_for OwnFill want.line v)) u.cache.shape want.line words u.cache.lines) u

abbrev pub row_for : Want → ℕ → State → Row
row_for want post v = record { core = v.number; line = want.line; kind = want.kind; issue = want.issue; post = post; fill = v.slot }

-- the want ends
abbrev pub with_row : Row → State → State
with_row row v = record v {
  pending = record v.pending { want = None };
  rows = record v.rows { items = v.rows.items ++ row ∷ [] };
}

-- by a shape
abbrev pub filled_on : Geometry → Want → List ℕ → ℕ → State → State
filled_on shape want words post v =
    with_row (row_for want post v) (with_filled want (words_with shape want.access words) (retired_on want.access (met_among shape want.access words) v))

-- a request was done: a write-back is next
abbrev pub turned : State → State
turned v = record v { pending = record v.pending { turn = WriteBackTurn } }

abbrev pub served : Want → List ℕ → ℕ → State → State
served want words post v = turned (filled_on v.shape want words post v)

-- ---- a request is posted

abbrev pub asked : Want → State → State
asked want v = turned (with_want (option_map (post_at v.slot) v.pending.want) (changed (own_event want.kind) want.line v))

abbrev pub name_for : Want → State → Name
name_for want v = name_of want.kind (mode_of want.line (held_of v.cache.lines))

-- the request is the first of its line, and nobody owns the line
abbrev pub fills_at_once : Want → SharedValue → State → Bool
fills_at_once want m v = at_once v.number want.line (name_for want v) m

abbrev pub posted_state : Want → SharedValue → State → State
posted_state want m v = if fills_at_once want m v then served want (line_in m want.line) v.slot (asked want v) else asked want v

abbrev pub posted_action : Want → SharedValue → State → Action
posted_action want m v = if fills_at_once want m v then PostFill (name_for want v) want.line else Post (name_for want v) want.line

-- ---- a write-back

-- a line that is written back stays shared by its state
abbrev pub keeps : ℕ → State → Bool
keeps line v = stays_in (state_name line v)

abbrev pub lines_kept : Bool → ℕ → List CachedLine → List CachedLine
lines_kept kept line lines = if kept then with_line_mode line Shared lines else lines

-- the first line doesn't wait any more
abbrev pub popped : List ℕ → State → State
popped lines v = record v { pending = record v.pending { write_backs = lines } }

-- it is written back: its state changes, and a kept line is shared from now on
abbrev pub backed : ℕ → List ℕ → State → State
backed line lines v =
    let u : State = changed OwnBack line (popped lines v) in
    record u {
      cache = record u.cache { lines = lines_kept (keeps line v) line u.cache.lines };
      pending = record u.pending { want = option_map (clear_victim line) v.pending.want; turn = RequestTurn };
    }

-- ---- another core's action is snooped

-- another core's request changes the state of its line
abbrev pub snooped_request : Kind → ℕ → State → State
snooped_request kind line v = changed (other_event kind) line v

-- of another core's action a post alone is noted
abbrev pub snooped : Action → State → State
snooped Idle v = v
snooped (Post name line) v = snooped_request (kind_of_name name) line v
snooped (Fill line) v = v
snooped (PostFill name line) v = snooped_request (kind_of_name name) line v
snooped (Back line kept) v = v

-- the state when the slot is over
abbrev pub stepped : State → State
stepped v = record v { slot = v.slot + 1; phase_done = false }
