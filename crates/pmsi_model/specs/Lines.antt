-- The single lines of what the program prints. Each ends with a newline; numbers after 0x have eight digits.
use Rattle.std.specs.Prelude.{ℕ, zero, suc, ◌+◌, ◌/◌, ◌%◌, ◌^◌, max, sum, List, [], ◌∷◌, ◌++◌, map, length, codes, decimal, Bool, ◌==◌, nat_lt, if◌then◌else◌, Option, Some, None}
use Rattle.std.specs.List.{filter, flat_map}
use Rattle.pmsi_model.specs.declared.job.Geometry.{Geometry}
use Rattle.pmsi_model.specs.declared.Action.{Action}
use Rattle.pmsi_model.specs.declared.Action.TheVariants.{Idle, Post, Fill, PostFill, Back}
use Rattle.pmsi_model.specs.declared.Halt.{Halt}
use Rattle.pmsi_model.specs.declared.Halt.TheVariants.{Exit, Break, Illegal, FetchRange, JumpMisaligned, Misaligned, Range}
use Rattle.pmsi_model.specs.declared.Kind.{Kind}
use Rattle.pmsi_model.specs.declared.Kind.TheVariants.{Read, Write}
use Rattle.pmsi_model.specs.declared.Mode.{Mode}
use Rattle.pmsi_model.specs.declared.Mode.TheVariants.{Shared, Modified}
use Rattle.pmsi_model.specs.declared.Name.{Name}
use Rattle.pmsi_model.specs.declared.Name.TheVariants.{GetS, GetM, Upg}
use Rattle.pmsi_model.specs.declared.OpenRow.{OpenRow}
use Rattle.pmsi_model.specs.declared.Row.{Row}
use Rattle.pmsi_model.specs.declared.Status.{Status}
use Rattle.pmsi_model.specs.declared.Status.TheVariants.{Running, Halted}
use Rattle.pmsi_model.specs.declared.Touch.{Touch}
use Rattle.pmsi_model.specs.Slots.{SlotPlan, owner_of_slot}
use Rattle.pmsi_model.specs.Rows.{wait_of, age_of}

-- ---- numbers

abbrev pub digit_of : ℕ → ℕ
digit_of n = if nat_lt n 10 then 48 + n else 87 + n

-- the lowest `count` hexadecimal digits of a number, the highest of them first
abbrev pub hex_digits : ℕ → ℕ → List ℕ
hex_digits zero n = []
hex_digits (suc count) n = digit_of (n / 16 ^ count % 16) ∷ hex_digits count n

abbrev pub hex_word : ℕ → List ℕ
hex_word n = codes "0x" ++ hex_digits 8 n

-- bytes of two digits each
abbrev pub hex_bytes : List ℕ → List ℕ
hex_bytes bytes = flat_map (hex_digits 2) bytes

-- ---- the head

-- `cores N quantum Q line W sets S ways A memory M slots n`
unfoldable pub shape_line : Geometry → List ℕ
shape_line shape =
    codes "cores " ++ decimal shape.cores
    ++ codes " quantum " ++ decimal shape.quantum
    ++ codes " line " ++ decimal shape.line_words
    ++ codes " sets " ++ decimal shape.sets
    ++ codes " ways " ++ decimal shape.ways
    ++ codes " memory " ++ decimal shape.memory
    ++ codes " slots " ++ decimal shape.slots ++ codes "\n"

-- ---- cores

abbrev pub halt_text : Halt → List ℕ
halt_text (Exit code) = codes "exit " ++ decimal code
halt_text Break = codes "break"
halt_text (Illegal word) = codes "illegal " ++ hex_word word
halt_text (FetchRange pc) = codes "fetch " ++ hex_word pc
halt_text (JumpMisaligned target) = codes "jump " ++ hex_word target
halt_text (Misaligned address) = codes "misaligned " ++ hex_word address
halt_text (Range address) = codes "range " ++ hex_word address

abbrev pub status_text : Status → List ℕ
status_text Running = codes "running"
status_text (Halted halt) = halt_text halt

-- `core C pc 0x........ retired K STATUS`
unfoldable pub core_line : ℕ → ℕ → ℕ → Status → List ℕ
core_line c pc retired status =
    codes "core " ++ decimal c ++ codes " pc " ++ hex_word pc ++ codes " retired " ++ decimal retired ++ codes " " ++ status_text status ++ codes "\n"

-- ` xR=0x........` for each register that isn't 0, from number r on
abbrev pub reg_texts : ℕ → List ℕ → List ℕ
reg_texts r [] = []
reg_texts r (value ∷ values) =
    (if value == 0 then [] else codes " x" ++ decimal r ++ codes "=" ++ hex_word value) ++ reg_texts (r + 1) values

unfoldable pub regs_line : List ℕ → List ℕ
regs_line regs = codes "regs" ++ reg_texts 0 regs ++ codes "\n"

abbrev pub mode_text : Mode → List ℕ
mode_text Shared = codes ":S"
mode_text Modified = codes ":M"

-- ` L:M` or ` L:S`
abbrev pub held_text : ℕ × Mode → List ℕ
held_text h = codes " " ++ decimal h.0 ++ mode_text h.1

unfoldable pub held_line : List (ℕ × Mode) → List ℕ
held_line held = codes "held" ++ flat_map held_text held ++ codes "\n"

-- ---- memory

-- `mem 0x........ ` and the bytes in address order
unfoldable pub memory_line : ℕ → List ℕ → List ℕ
memory_line address bytes = codes "mem " ++ hex_word address ++ codes " " ++ hex_bytes bytes ++ codes "\n"

-- ---- requests

abbrev pub kind_text : Kind → List ℕ
kind_text Read = codes "read"
kind_text Write = codes "write"

-- `row core C line L read issue I post P fill F wait X`, or `write`
unfoldable pub row_line : Row → List ℕ
row_line row =
    codes "row core " ++ decimal row.core ++ codes " line " ++ decimal row.line ++ codes " " ++ kind_text row.kind
    ++ codes " issue " ++ decimal row.issue ++ codes " post " ++ decimal row.post ++ codes " fill " ++ decimal row.fill
    ++ codes " wait " ++ decimal (wait_of row) ++ codes "\n"

abbrev pub post_text : Option ℕ → List ℕ
post_text None = codes "-"
post_text (Some slot) = decimal slot

-- `open core C line L read issue I post P age X`, or `write`; `-` where it isn't posted
unfoldable pub open_row_line : ℕ → OpenRow → List ℕ
open_row_line slot row =
    codes "open core " ++ decimal row.core ++ codes " line " ++ decimal row.line ++ codes " " ++ kind_text row.kind
    ++ codes " issue " ++ decimal row.issue ++ codes " post " ++ post_text row.post ++ codes " age " ++ decimal (age_of slot row) ++ codes "\n"

-- the waits of a core's rows
abbrev pub waits_of : ℕ → List Row → List ℕ
waits_of c rows = map wait_of (filter (λ row. row.core == c) rows)

abbrev pub greatest : List ℕ → ℕ
greatest [] = 0
greatest (n ∷ ns) = max n (greatest ns)

-- `waits C count K greatest X sum Y`
unfoldable pub waits_line : ℕ → List ℕ → List ℕ
waits_line c waits =
    codes "waits " ++ decimal c ++ codes " count " ++ decimal (length waits) ++ codes " greatest " ++ decimal (greatest waits)
    ++ codes " sum " ++ decimal (sum waits) ++ codes "\n"

-- `bound B`
abbrev pub bound_line : ℕ → List ℕ
bound_line bound = codes "bound " ++ decimal bound ++ codes "\n"

-- ---- actions and accesses

abbrev pub name_text : Name → List ℕ
name_text GetS = codes "GetS"
name_text GetM = codes "GetM"
name_text Upg = codes "Upg"

-- whether a line that is written back stays shared
abbrev pub kept_text : Bool → List ℕ
kept_text kept = if kept then codes "keep" else codes "drop"

abbrev pub action_text : Action → List ℕ
action_text Idle = codes "idle"
action_text (Post name line) = codes "post " ++ name_text name ++ codes " " ++ decimal line
action_text (Fill line) = codes "fill " ++ decimal line
action_text (PostFill name line) = codes "postfill " ++ name_text name ++ codes " " ++ decimal line
action_text (Back line kept) = codes "back " ++ decimal line ++ codes " " ++ kept_text kept

-- `slot S core C ACTION`
unfoldable pub action_line : ℕ → ℕ → Action → List ℕ
action_line slot c action = codes "slot " ++ decimal slot ++ codes " core " ++ decimal c ++ codes " " ++ action_text action ++ codes "\n"

-- the lines of actions, the first of which is that of this slot
unfoldable pub action_lines : SlotPlan → ℕ → List Action → List ℕ
action_lines plan slot [] = []
action_lines plan slot (action ∷ actions) = action_line slot (owner_of_slot plan slot) action ++ action_lines plan (slot + 1) actions

-- `touch S core C read W 0xADDRESS 0xOLD 0xNEW`, or `write`
unfoldable pub touch_line : Touch → List ℕ
touch_line touch =
    codes "touch " ++ decimal touch.slot ++ codes " core " ++ decimal touch.core ++ codes " " ++ kind_text touch.kind
    ++ codes " " ++ decimal touch.width ++ codes " " ++ hex_word touch.address ++ codes " " ++ hex_word touch.old
    ++ codes " " ++ hex_word touch.new ++ codes "\n"
