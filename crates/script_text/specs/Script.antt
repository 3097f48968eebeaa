-- What bytes say as a script: its commands, or its first fault. The bytes are cut into lines and fields as those of a job text.
use Rattle.std.specs.Prelude.{ℕ, ◌+◌, ◌*◌, ◌%◌, ◌^◌, Bool, true, ◌&&◌, ◌==◌, nat_lt, nat_le, if◌then◌else◌, List, [], ◌∷◌, ◌++◌, length, take, drop, codes, Option, Some, None, Result, Ok, Err}
use Rattle.std.specs.Char.{is_digit}
use Rattle.std.specs.List.{list_all}
use Rattle.std.specs.Str.{bytes_eq, is_utf8}
use Rattle.std.specs.Str.Parse.{digits_value}
use Rattle.pmsi_model.specs.declared.job.Geometry.{Geometry}
use Rattle.pmsi_model.specs.declared.limits.TheConstants.{MAX_COMMANDS, MAX_SLOTS}
use Rattle.pmsi_model.specs.Geometry.{line_bytes}
use Rattle.job_text.specs.Cutting.{Row, has_some, rows_of}
use Rattle.job_text.specs.Sayings.{only_field}
use Rattle.script_text.specs.declared.command.Command.{Command}
use Rattle.script_text.specs.declared.command.Command.TheVariants.{Step, Break, Go, Regs, Held, Word, State, Left}
use Rattle.script_text.specs.declared.command.OneNumber.{OneNumber}
use Rattle.script_text.specs.declared.command.OneNumber.TheVariants as one
use Rattle.script_text.specs.declared.command.TwoNumbers.{TwoNumbers}
use Rattle.script_text.specs.declared.command.TwoNumbers.TheVariants as two
use Rattle.script_text.specs.declared.command.Verb.{Verb}
use Rattle.script_text.specs.declared.command.Verb.TheVariants as verb
use Rattle.script_text.specs.declared.fault.ScriptCause.{ScriptCause}
use Rattle.script_text.specs.declared.fault.ScriptCause.TheVariants as cause
use Rattle.script_text.specs.declared.fault.ScriptFault.{ScriptFault}
use Rattle.script_text.specs.declared.fault.ScriptFault.TheVariants.{NotText, Line}

-- ---- numbers

-- the number of 32 bits that some digits of a base spell
unfoldable pub spelt_in : ℕ → List ℕ → Option ℕ
spelt_in base digits =
    if has_some digits && list_all (λ byte. is_digit byte base) digits && nat_lt (digits_value base digits) (2 ^ 32)
    then Some (digits_value base digits) else None

-- decimal digits, or `0x` and one to eight hexadecimal digits of either case
unfoldable pub number_in : List ℕ → Option ℕ
number_in field =
    if bytes_eq (take 2 field) (codes "0x") then (if nat_le (length (drop 2 field)) 8 then spelt_in 16 (drop 2 field) else None)
    else spelt_in 10 field

-- ---- one line

unfoldable pub verb_named : List ℕ → Option Verb
verb_named field =
    if bytes_eq field (codes "step") then Some (verb.One one.Step)
    else if bytes_eq field (codes "break") then Some (verb.Two two.Break)
    else if bytes_eq field (codes "go") then Some verb.Go
    else if bytes_eq field (codes "regs") then Some (verb.One one.Regs)
    else if bytes_eq field (codes "held") then Some (verb.One one.Held)
    else if bytes_eq field (codes "word") then Some (verb.One one.Word)
    else if bytes_eq field (codes "state") then Some (verb.Two two.State)
    else if bytes_eq field (codes "left") then Some (verb.One one.Left)
    else None

abbrev pub one_of : OneNumber → ℕ → Command
one_of one.Step n = Step n
one_of one.Regs n = Regs n
one_of one.Held n = Held n
one_of one.Word n = Word n
one_of one.Left n = Left n

abbrev pub two_of : TwoNumbers → ℕ → ℕ → Command
two_of two.Break c n = Break (record { core = c; pc = n })
two_of two.State c n = State c n

-- the machine of the shape has the core, the line, the aligned address of a word; a step has a slot, and not too many.
-- A break may have any pc
abbrev pub is_in_range : Geometry → Command → Bool
is_in_range shape (Step k) = nat_le 1 k && nat_le k MAX_SLOTS
is_in_range shape (Break b) = nat_lt b.core shape.cores
is_in_range shape Go = true
is_in_range shape (Regs c) = nat_lt c shape.cores
is_in_range shape (Held c) = nat_lt c shape.cores
is_in_range shape (Word address) = address % 4 == 0 && nat_lt address shape.memory
is_in_range shape (State c line) = nat_lt c shape.cores && nat_le ((line + 1) * line_bytes shape) shape.memory
is_in_range shape (Left c) = nat_lt c shape.cores

abbrev pub in_range : Geometry → Command → Result Command ScriptCause
in_range shape command = if is_in_range shape command then Ok command else Err cause.Range

abbrev pub on_number : Option ℕ → (ℕ → Result Command ScriptCause) → Result Command ScriptCause
on_number None read = Err cause.Number
on_number (Some n) read = read n

-- the two fields of a list
abbrev pub two_fields : List (List ℕ) → Option (List ℕ × List ℕ)
two_fields [] = None
two_fields (first ∷ []) = None
two_fields (first ∷ second ∷ []) = Some (first, second)
two_fields (first ∷ second ∷ third ∷ more) = None

abbrev pub read_one : Geometry → OneNumber → Option (List ℕ) → Result Command ScriptCause
read_one shape what None = Err cause.Count
read_one shape what (Some field) = on_number (number_in field) (λ n. in_range shape (one_of what n))

abbrev pub read_two : Geometry → TwoNumbers → Option (List ℕ × List ℕ) → Result Command ScriptCause
read_two shape what None = Err cause.Count
read_two shape what (Some fields) = on_number (number_in fields.0) (λ c. on_number (number_in fields.1) (λ n. in_range shape (two_of what c n)))

-- by the command that the first field names: what stands behind it
abbrev pub read_verb : Geometry → Option Verb → List (List ℕ) → Result Command ScriptCause
read_verb shape None fields = Err cause.Word
read_verb shape (Some verb.Go) fields = if has_some fields then Err cause.Count else Ok Go
read_verb shape (Some (verb.One what)) fields = read_one shape what (only_field fields)
read_verb shape (Some (verb.Two what)) fields = read_two shape what (two_fields fields)

-- a line with fields, behind so many commands: its command, or the first that is wrong with it
unfoldable pub command_in : Geometry → ℕ → List (List ℕ) → Result Command ScriptCause
command_in shape count [] = Err cause.Word
command_in shape count (field ∷ fields) = if nat_le MAX_COMMANDS count then Err cause.Many else read_verb shape (verb_named field) fields

-- ---- the whole

abbrev pub on_command : Result Command ScriptCause → ℕ → (Command → Result (List Command) ScriptFault) → Result (List Command) ScriptFault
on_command (Err why) number goes_on = Err (Line number why)
on_command (Ok command) number goes_on = goes_on command

-- the commands of lines with fields, behind some commands
unfoldable pub commands_in : Geometry → List Command → List Row → Result (List Command) ScriptFault
commands_in shape commands [] = Ok commands
commands_in shape commands (row ∷ rows) =
    on_command (command_in shape (length commands) row.fields) row.number (λ command. commands_in shape (commands ++ command ∷ []) rows)

-- what bytes say, for a machine of this shape
unfoldable pub script_of : Geometry → List ℕ → Result (List Command) ScriptFault
script_of shape bytes = if is_utf8 bytes then commands_in shape [] (rows_of bytes) else Err NotText
