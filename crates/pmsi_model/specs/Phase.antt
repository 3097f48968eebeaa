-- A core's phase of a slot: at most a quantum of instructions, while it runs and has no want.
use Rattle.std.specs.Prelude.{ℕ, zero, suc, ◌+◌, ◌/◌, List, [], ◌∷◌, ◌++◌, length, take, drop, slice_get, slice_set, Bool, true, false, ◌==◌, ◌&&◌, Option, Some, None, is_some, is_none, if◌then◌else◌}
use Rattle.std.specs.List.{filter, last_or}
use Rattle.pmsi_model.specs.declared.job.Geometry.{Geometry}
use Rattle.pmsi_model.specs.declared.Access.{Access}
use Rattle.pmsi_model.specs.declared.Halt.{Halt}
use Rattle.pmsi_model.specs.declared.Halt.TheVariants.{FetchRange, Illegal}
use Rattle.pmsi_model.specs.declared.Kind.{Kind}
use Rattle.pmsi_model.specs.declared.Kind.TheVariants.{Read, Write}
use Rattle.pmsi_model.specs.declared.Mode.{Mode}
use Rattle.pmsi_model.specs.declared.Status.{Status}
use Rattle.pmsi_model.specs.declared.Status.TheVariants.{Running, Halted}
use Rattle.pmsi_model.specs.declared.Touch.{Touch}
use Rattle.pmsi_model.specs.declared.instr.Instr.{Instr}
use Rattle.pmsi_model.specs.Geometry.{line_of, set_of}
use Rattle.pmsi_model.specs.Job.{JobValue, text_of}
use Rattle.pmsi_model.specs.Words.{number_of}
use Rattle.pmsi_model.specs.Instruction.{instr_of}
use Rattle.pmsi_model.specs.Access.{width_of, kind_of, access_value, access_bytes}
use Rattle.pmsi_model.specs.Effect.{Effect, Next, Memory, Stop, effect_of, with_reg, next_pc}
use Rattle.pmsi_model.specs.Machine.{Machine, CoreState, with_core, mode_of, is_modified, without, to_front, append_once}

-- ---- bytes of memory

abbrev pub bytes_from : ℕ → ℕ → List ℕ → List ℕ
bytes_from address width memory = take width (drop address memory)

-- bytes are written from an address on
abbrev pub with_bytes : ℕ → List ℕ → List ℕ → List ℕ
with_bytes address [] memory = memory
with_bytes address (byte ∷ bytes) memory = with_bytes (address + 1) bytes (slice_set memory address byte)

-- ---- accesses

-- a read needs the line held, a write needs it held modified
abbrev pub permits : Kind → Option Mode → Bool
permits Read mode = is_some mode
permits Write mode = is_modified mode

-- the bytes that an access meets
abbrev pub met_bytes : Access → List ℕ → List ℕ
met_bytes access memory = bytes_from access.address (width_of access.op) memory

-- memory after an access
abbrev pub memory_after : Access → List ℕ → List ℕ
memory_after access memory = with_bytes access.address (access_bytes access.op access.operand (met_bytes access memory)) memory

-- the core after an access that met these bytes: the instruction retires
abbrev pub retired_with : Access → List ℕ → CoreState → CoreState
retired_with access bytes k = record k {
  regs = with_reg k.regs access.rd (access_value access.op bytes);
  pc = next_pc k.pc;
  retired = k.retired + 1;
}

-- the note of an access that was done
abbrev pub touch_of : ℕ → ℕ → Access → List ℕ → Touch
touch_of slot c access memory = record {
  slot = slot;
  core = c;
  address = access.address;
  width = width_of access.op;
  kind = kind_of access.op;
  old = number_of (met_bytes access memory);
  new = number_of (access_bytes access.op access.operand (met_bytes access memory));
}

-- ---- a miss

-- the lines of the set of a line, most recently used first
abbrev pub set_lines : Geometry → ℕ → List (ℕ × Mode) → List (ℕ × Mode)
set_lines shape line held = filter (λ h. set_of shape h.0 == set_of shape line) held

-- the least recently used line of the set, where the line isn't held and its set is full
abbrev pub evicted : Geometry → ℕ → List (ℕ × Mode) → Option (ℕ × Mode)
evicted shape line held =
    if is_none (mode_of line held) && (length (set_lines shape line held) == shape.ways) then last_or None (set_lines shape line held) else None

-- a shared line that is evicted is dropped at once
abbrev pub drop_shared : Option (ℕ × Mode) → List (ℕ × Mode) → List (ℕ × Mode)
drop_shared None held = held
drop_shared (Some h) held = if is_modified (Some h.1) then held else without h.0 held

-- a modified one stands as victim
abbrev pub victim_of : Option (ℕ × Mode) → Option ℕ
victim_of None = None
victim_of (Some h) = if is_modified (Some h.1) then Some h.0 else None

-- and is to be written back
abbrev pub append_victim : Option ℕ → List ℕ → List ℕ
append_victim None lines = lines
append_victim (Some line) lines = append_once line lines

-- the core gets a want
abbrev pub missed : Geometry → ℕ → Access → CoreState → CoreState
missed shape slot access k =
    let line = line_of shape access.address in
    let gone = evicted shape line k.held in
    record k {
      held = drop_shared gone k.held;
      want = Some (record { line = line; kind = kind_of access.op; issue = slot; post = None; victim = victim_of gone; access = access });
      write_backs = append_victim (victim_of gone) k.write_backs;
    }

-- ---- instructions

-- a core, and memory as it sees it
pub record Context : Type 0 where
  pub core : CoreState
  pub memory : List ℕ

abbrev pub is_running : Status → Bool
is_running Running = true
is_running (Halted halt) = false

abbrev pub can_run : CoreState → Bool
can_run k = is_running k.status && is_none k.want

abbrev pub halted : Halt → CoreState → CoreState
halted halt k = record k { status = Halted halt }

-- the effect of a fetched word
abbrev pub effect_of_word : Geometry → ℕ → CoreState → Option Instr → Effect
effect_of_word shape word k None = Stop (Illegal word)
effect_of_word shape word k (Some instr) = effect_of instr k.regs k.pc shape.memory

abbrev pub effect_of_fetch : Geometry → CoreState → Option ℕ → Effect
effect_of_fetch shape k None = Stop (FetchRange k.pc)
effect_of_fetch shape k (Some word) = effect_of_word shape word k (instr_of word)

-- the effect of the instruction at the core's pc
abbrev pub effect_at : Geometry → List ℕ → CoreState → Effect
effect_at shape text k = effect_of_fetch shape k (slice_get text (k.pc / 4))

-- the access has permission
abbrev pub is_permitted : Geometry → Access → CoreState → Bool
is_permitted shape access k = permits (kind_of access.op) (mode_of (line_of shape access.address) k.held)

-- a held line goes to the front
abbrev pub touched_line : Option Mode → ℕ → List (ℕ × Mode) → List (ℕ × Mode)
touched_line None line held = held
touched_line (Some mode) line held = to_front line mode held

-- an access with permission is done at once
abbrev pub accessed : Geometry → Access → Context → Context
accessed shape access x =
    let line = line_of shape access.address in
    let k = retired_with access (met_bytes access x.memory) x.core in
    record { core = record k { held = touched_line (mode_of line k.held) line k.held }; memory = memory_after access x.memory }

abbrev pub after_effect : Geometry → ℕ → Effect → Context → Context
after_effect shape slot (Next regs pc) x = record x { core = record x.core { regs = regs; pc = pc; retired = x.core.retired + 1 } }
after_effect shape slot (Stop halt) x = record x { core = halted halt x.core }
after_effect shape slot (Memory access) x =
    if is_permitted shape access x.core then accessed shape access x else record x { core = missed shape slot access x.core }

-- one instruction, if the core takes one
unfoldable pub instruction : Geometry → ℕ → List ℕ → Context → Context
instruction shape slot text x = if can_run x.core then after_effect shape slot (effect_at shape text x.core) x else x

-- so many instructions
unfoldable pub instructions : Geometry → ℕ → List ℕ → ℕ → Context → Context
instructions shape slot text zero x = x
instructions shape slot text (suc count) x = instruction shape slot text (instructions shape slot text count x)

-- the access that the next instruction does at once
abbrev pub access_if_permitted : Geometry → CoreState → Effect → Option Access
access_if_permitted shape k (Next regs pc) = None
access_if_permitted shape k (Stop halt) = None
access_if_permitted shape k (Memory access) = if is_permitted shape access k then Some access else None

abbrev pub access_at : Geometry → List ℕ → CoreState → Option Access
access_at shape text k = if can_run k then access_if_permitted shape k (effect_at shape text k) else None

abbrev pub touch_list : ℕ → ℕ → Option Access → List ℕ → List Touch
touch_list slot c None memory = []
touch_list slot c (Some access) memory = touch_of slot c access memory ∷ []

-- the accesses of so many instructions of core c, in program order
unfoldable pub instruction_touches : Geometry → ℕ → ℕ → List ℕ → ℕ → Context → List Touch
instruction_touches shape slot c text zero x = []
instruction_touches shape slot c text (suc count) x =
    let y = instructions shape slot text count x in
    instruction_touches shape slot c text count x ++ touch_list slot c (access_at shape text y.core) y.memory

-- ---- the phase

abbrev pub context_of : Machine → ℕ → Context
context_of x c = record { core = x.cores c; memory = x.memory }

-- the phase of core c
unfoldable pub phase : JobValue → ℕ → Machine → Machine
phase job c x =
    let y = instructions job.shape x.slot (text_of job c) job.shape.quantum (context_of x c) in
    with_core (record x { memory = y.memory }) c y.core

-- the accesses of the phase of core c
unfoldable pub phase_touches : JobValue → ℕ → Machine → List Touch
phase_touches job c x = instruction_touches job.shape x.slot c (text_of job c) job.shape.quantum (context_of x c)

-- the phases of the first `count` cores, in core order
unfoldable pub phases : JobValue → ℕ → Machine → Machine
phases job zero x = x
phases job (suc count) x = phase job count (phases job count x)

unfoldable pub phases_touches : JobValue → ℕ → Machine → List Touch
phases_touches job zero x = []
phases_touches job (suc count) x = phases_touches job count x ++ phase_touches job count (phases job count x)

-- the accesses of one core among those of several
abbrev pub touches_by : ℕ → List Touch → List Touch
touches_by c touches = filter (λ touch. touch.core == c) touches
