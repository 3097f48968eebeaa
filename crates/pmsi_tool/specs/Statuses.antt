-- The causes of the statuses, and what each leaves in the sinks.
use Rattle.std.specs.Prelude.{◌≡◌, ◌⊎◌, ℕ, List, [], Option, Some, None, IsSome}
use Rattle.std.specs.Io.KnownBytes.{Appends}
use Rattle.pmsi_outside.specs.Causes.{Rose}
use Rattle.pmsi_outside.specs.Files.{Contents}
use Rattle.pmsi_outside.specs.Sink.{AppendsPart}
use Rattle.tool_words.specs.Meaning.{AskedValue}
use Rattle.tool_files.specs.declared.refusal.Detail.{Detail}
use Rattle.tool_files.specs.declared.refusal.Place.{Place}
use Rattle.tool_files.specs.declared.refusal.Stop.TheVariants as stop
use Rattle.tool_files.specs.Ordered.{Helds, Follows, IsResultOf, IsRefused}
use Rattle.tool_files.specs.Stops.{FilesCall}
use Rattle.pmsi_tool.specs.declared.ToolStatus.{ToolStatus}
use Rattle.pmsi_tool.specs.declared.ToolStatus.TheVariants.{Done, Usage, ReadFault, WriteFault, Refused, NoMemory}
use Rattle.pmsi_tool.specs.declared.complaint.Complaint.{Complaint}
use Rattle.pmsi_tool.specs.declared.complaint.Complaint.TheVariants as complaint
use Rattle.pmsi_tool.specs.Calls.{Call, meaning_for}
use Rattle.pmsi_tool.specs.Answers.{Gives, Refuses, IsUnread, Stands}
use Rattle.pmsi_tool.specs.Lines.{line_of, usage_line, read_fault_line, refused_line, write_fault_line}

-- ---- sinks

-- a sink in a call: its counts of faults before and after, and what it holds before and after, where it tells that
pub record SinkCall : Type 0 where
  pub before : ℕ
  pub now : ℕ
  pub old : Option (List ℕ)
  pub new : Option (List ℕ)

abbrev pub sink_call : ℕ → ℕ → Option (List ℕ) → Option (List ℕ) → SinkCall
sink_call before now old new = record { before = before; now = now; old = old; new = new }

-- what is held is as before, followed by a text
abbrev pub GrowsBy : SinkCall → List ℕ → Type 0
GrowsBy sink text = Appends sink.old sink.new text

-- the sink failed in a text, of which it has a front more
abbrev pub FailsIn : SinkCall → List ℕ → Type 0
FailsIn sink text = Rose sink.before sink.now × AppendsPart sink.old sink.new text

-- a line went to a sink, or the sink failed in it
abbrev pub LeavesFront : SinkCall → List ℕ → Type 0
LeavesFront sink line = GrowsBy sink line ⊎ FailsIn sink line

-- ---- complaints

abbrev pub status_of : Complaint → ToolStatus
status_of complaint.Usage = Usage
status_of (complaint.Stopped stop.ReadFault) = ReadFault
status_of (complaint.Stopped (stop.Refused place detail)) = Refused
status_of (complaint.Stopped stop.NoMemory) = NoMemory

-- a line went to a sink and the status is as wanted, or the sink failed in it
abbrev pub TellsLine : ToolStatus → ToolStatus → SinkCall → List ℕ → Type 0
TellsLine wanted status sink line = ((status ≡ wanted) × GrowsBy sink line) ⊎ ((status ≡ WriteFault) × FailsIn sink line)

-- a complaint was told
abbrev pub IsTold : ToolStatus → SinkCall → Complaint → Type 0
IsTold status sink said = TellsLine (status_of said) status sink (line_of said)

-- ---- the clauses of a call, by its status

-- there is a result, and `out` has it
abbrev pub IsDone : Call → List (List ℕ) → Option Contents → SinkCall → Type 0
IsDone call words contents out = (text : List ℕ) × Gives call words contents text × GrowsBy out text

-- the words ask nothing of the call, and that is told
abbrev pub IsUsage : Call → List (List ℕ) → SinkCall → Type 0
IsUsage call words err = (meaning_for call words ≡ None) × GrowsBy err usage_line

-- a file couldn't be read, and that is told
abbrev pub ReadFails : Call → List (List ℕ) → FilesCall → SinkCall → Type 0
ReadFails call words files err = IsUnread call words files × GrowsBy err read_fault_line

-- the files are refused, and why is told
abbrev pub IsRefusal : Call → List (List ℕ) → Option Contents → SinkCall → Type 0
IsRefusal call words contents err =
    (place : Place) × (detail : Detail) × Refuses call words contents place detail × GrowsBy err (refused_line place detail)

-- there is a result, and `out` failed in it
pub record OutFails (call : Call) (words : List (List ℕ)) (contents : Option Contents) (out err : SinkCall) : Type 0 where
  pub text : List ℕ
  pub gives : Gives call words contents text
  pub failed : FailsIn out text
  pub told : LeavesFront err write_fault_line

-- a complaint has its cause, and `err` failed in its line
pub record ErrFails (call : Call) (words : List (List ℕ)) (files : FilesCall) (err : SinkCall) : Type 0 where
  pub complaint : Complaint
  pub stands : Stands call words files complaint
  pub failed : FailsIn err (line_of complaint)

-- where contents are told, these are bytes of the files of what the words ask of the call
pub record Holds (call : Call) (words : List (List ℕ)) (contents : Option Contents) (asked : AskedValue) (helds : Helds) : Type 0 where
  pub means : meaning_for call words ≡ Some asked
  pub told : IsSome contents
  pub follows : Follows contents asked [] helds

-- accepted files are never refused: what they come to is written, unless something fails or memory runs out
abbrev pub TakesAccepted : Call → List (List ℕ) → Option Contents → SinkCall → ToolStatus → Type 0
TakesAccepted call words contents out status =
    (asked : AskedValue) (helds : Helds) (text : List ℕ) → Holds call words contents asked helds → IsResultOf asked helds text
    → ((status ≡ Done) × GrowsBy out text) ⊎ ((status ≡ NoMemory) ⊎ ((status ≡ ReadFault) ⊎ (status ≡ WriteFault)))

-- where a refusal has its cause and nothing fails, it comes
abbrev pub RefusesAlways : Call → List (List ℕ) → FilesCall → SinkCall → SinkCall → ToolStatus → Type 0
RefusesAlways call words files out err status =
    (asked : AskedValue) (helds : Helds) (place : Place) (detail : Detail) → Holds call words files.contents asked helds
    → IsRefused asked helds place detail
    → (Rose files.before files.now → ⊥) → (Rose out.before out.now → ⊥) → (Rose err.before err.now → ⊥)
    → ((status ≡ Refused) × GrowsBy err (refused_line place detail)) ⊎ (status ≡ NoMemory)
