-- The lines that are told on `err`.
use Rattle.std.specs.Prelude.{ℕ, List, ◌++◌, codes, decimal}
use Rattle.std.specs.Fmt.{signed_decimal}
use Rattle.pmsi_model.specs.Lines.{hex_word}
use Rattle.asm_parse.specs.declared.fault.AsmCause.{AsmCause}
use Rattle.asm_parse.specs.declared.fault.AsmCause.TheVariants as cause
use Rattle.image_file.specs.declared.fault.ImageFault.{ImageFault}
use Rattle.image_file.specs.declared.fault.ImageFault.TheVariants as check
use Rattle.job_text.specs.declared.job_fault.HeadWord.{HeadWord}
use Rattle.job_text.specs.declared.job_fault.HeadWord.TheVariants as head
use Rattle.job_text.specs.declared.job_fault.JobFault.{JobFault}
use Rattle.job_text.specs.declared.job_fault.JobFault.TheVariants as fault
use Rattle.job_text.specs.declared.job_fault.LineCause.{LineCause}
use Rattle.job_text.specs.declared.job_fault.LineCause.TheVariants as why
use Rattle.script_text.specs.declared.fault.ScriptCause.{ScriptCause}
use Rattle.script_text.specs.declared.fault.ScriptCause.TheVariants as script_why
use Rattle.script_text.specs.declared.fault.ScriptFault.{ScriptFault}
use Rattle.script_text.specs.declared.fault.ScriptFault.TheVariants as script
use Rattle.tool_files.specs.declared.refusal.Detail.{Detail}
use Rattle.tool_files.specs.declared.refusal.Detail.TheVariants as detail
use Rattle.tool_files.specs.declared.refusal.Place.{Place}
use Rattle.tool_files.specs.declared.refusal.Place.TheVariants.{Input, Core, Script}
use Rattle.tool_files.specs.declared.refusal.Stop.TheVariants.{ReadFault, Refused, NoMemory}
use Rattle.pmsi_tool.specs.declared.complaint.Complaint.{Complaint}
use Rattle.pmsi_tool.specs.declared.complaint.Complaint.TheVariants.{Usage, Stopped}

abbrev pub usage_line : List ℕ
usage_line = codes "usage: pmsi COMMAND [OPTIONS] ARGUMENTS\n"

abbrev pub read_fault_line : List ℕ
read_fault_line = codes "read fault\n"

abbrev pub write_fault_line : List ℕ
write_fault_line = codes "write fault\n"

abbrev pub no_memory_line : List ℕ
no_memory_line = codes "no memory\n"

-- ---- an image

-- the first check of an image that fails, with what is needed and what there is, a number, an address, a piece's number or
-- a place; want of memory is never such a check
abbrev pub check_text : ImageFault → List ℕ
check_text (check.Short needed have) = codes "short " ++ decimal needed ++ codes " " ++ decimal have
check_text check.Magic = codes "magic"
check_text (check.Limit count) = codes "limit " ++ decimal count
check_text (check.Range address) = codes "range " ++ hex_word address
check_text (check.Order piece) = codes "order " ++ decimal piece
check_text (check.Extra place) = codes "extra " ++ decimal place
check_text check.NoMemory = codes "no memory"

-- ---- a source

-- what is wrong with a line of assembly: where its column is told it is counted from 1 on, and a distance has its sign
abbrev pub cause_text : AsmCause → List ℕ
cause_text (cause.Character column) = codes "character " ++ decimal column
cause_text (cause.Word column) = codes "word " ++ decimal column
cause_text (cause.Operand column) = codes "operand " ++ decimal column
cause_text (cause.Number column) = codes "number " ++ decimal column
cause_text cause.TextLong = codes "text long"
cause_text (cause.Twice column) = codes "twice " ++ decimal column
cause_text (cause.Overlap address) = codes "overlap " ++ hex_word address
cause_text (cause.Range address) = codes "range " ++ hex_word address
cause_text (cause.Unknown column) = codes "unknown " ++ decimal column
cause_text (cause.Reach distance) = codes "reach " ++ signed_decimal distance

-- ---- a job

abbrev pub head_text : HeadWord → List ℕ
head_text head.Version = codes "version"
head_text head.Cores = codes "cores"
head_text head.Quantum = codes "quantum"
head_text head.Line = codes "line"
head_text head.Sets = codes "sets"
head_text head.Ways = codes "ways"
head_text head.Memory = codes "memory"
head_text head.Slots = codes "slots"
head_text (head.Core core) = codes "core " ++ decimal core

abbrev pub why_text : LineCause → List ℕ
why_text why.Version = codes "version"
why_text why.Word = codes "word"
why_text why.Count = codes "count"
why_text why.Number = codes "number"

-- `line N: `, N from 1 on
abbrev pub line_text : ℕ → List ℕ
line_text line = codes "line " ++ decimal line ++ codes ": "

-- want of memory is never what is wrong with a job
abbrev pub fault_text : JobFault → List ℕ
fault_text fault.NotText = codes "not text"
fault_text (fault.Line line cause) = line_text line ++ why_text cause
fault_text (fault.Twice word) = codes "twice " ++ head_text word
fault_text (fault.Missing word) = codes "missing " ++ head_text word
fault_text (fault.Limit word value) = codes "limit " ++ head_text word ++ codes " " ++ decimal value
fault_text (fault.Beyond core address) = codes "beyond " ++ decimal core ++ codes " " ++ hex_word address
fault_text (fault.Overlap core other address) = codes "overlap " ++ decimal core ++ codes " " ++ decimal other ++ codes " " ++ hex_word address
fault_text fault.NoMemory = codes "no memory"

-- ---- a script

abbrev pub script_why_text : ScriptCause → List ℕ
script_why_text script_why.Word = codes "word"
script_why_text script_why.Count = codes "count"
script_why_text script_why.Number = codes "number"
script_why_text script_why.Range = codes "range"
script_why_text script_why.Many = codes "many"

-- want of memory is never what is wrong with a script
abbrev pub script_text : ScriptFault → List ℕ
script_text script.NotText = codes "not text"
script_text (script.Line line cause) = line_text line ++ script_why_text cause
script_text script.NoMemory = codes "no memory"

-- ---- refusals

abbrev pub place_text : Place → List ℕ
place_text Input = codes "input"
place_text (Core core) = codes "core " ++ decimal core
place_text Script = codes "script"

abbrev pub detail_text : Detail → List ℕ
detail_text detail.Large = codes "large"
detail_text detail.NotText = codes "not text"
detail_text (detail.Job said) = fault_text said
detail_text (detail.Source line found) = line_text line ++ cause_text found
detail_text (detail.Image failed) = check_text failed
detail_text (detail.Touches count) = codes "touches " ++ decimal count
detail_text (detail.Script said) = script_text said

abbrev pub refused_line : Place → Detail → List ℕ
refused_line place said = codes "refused: " ++ place_text place ++ codes ": " ++ detail_text said ++ codes "\n"

abbrev pub line_of : Complaint → List ℕ
line_of Usage = usage_line
line_of (Stopped ReadFault) = read_fault_line
line_of (Stopped (Refused place said)) = refused_line place said
line_of (Stopped NoMemory) = no_memory_line
