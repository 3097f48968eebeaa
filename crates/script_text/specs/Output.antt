-- What a script writes: each command's text, read off the written machine at the boundary where the commands so far have led.
use Rattle.std.specs.Prelude.{◌≡◌, ℕ, ◌+◌, ◌-◌, min, Bool, true, false, ◌&&◌, ◌==◌, List, [], ◌∷◌, ◌++◌, codes, decimal, Option, Some, None, Result, Ok, Err}
use Rattle.std.specs.List.{find, list_any, range_with_len}
use Rattle.std.specs.Option.{unwrap_or}
use Rattle.pmsi_model.specs.declared.State.{State}
use Rattle.pmsi_model.specs.declared.State.TheVariants as state
use Rattle.pmsi_model.specs.declared.Status.{Status}
use Rattle.pmsi_model.specs.declared.Status.TheVariants.{Running, Halted}
use Rattle.pmsi_model.specs.Job.{JobValue}
use Rattle.pmsi_model.specs.Lines.{hex_word, core_line, regs_line, held_line}
use Rattle.pmsi_model.specs.Machine.{Machine, CoreState}
use Rattle.pmsi_model.specs.Named.{state_of}
use Rattle.pmsi_model.specs.Phase.{bytes_from}
use Rattle.pmsi_model.specs.Run.{machine_at}
use Rattle.pmsi_model.specs.Slots.{plan_of}
use Rattle.pmsi_model.specs.Waiting.{slots_left}
use Rattle.pmsi_model.specs.Words.{number_of}
use Rattle.script_text.specs.declared.command.Breakpoint.{Breakpoint}
use Rattle.script_text.specs.declared.command.Command.{Command}
use Rattle.script_text.specs.declared.command.Command.TheVariants.{Step, Break, Go, Regs, Held, Word, State as StateCommand, Left}
use Rattle.script_text.specs.declared.fault.ScriptFault.{ScriptFault}
use Rattle.script_text.specs.Script.{script_of}

-- ---- breaks

abbrev pub is_running : Status → Bool
is_running Running = true
is_running (Halted halt) = false

-- a break holds: its core runs, and has this pc
abbrev pub holds : Machine → Breakpoint → Bool
holds x b = is_running (x.cores b.core).status && (x.cores b.core).pc == b.pc

abbrev pub holds_any : Machine → List Breakpoint → Bool
holds_any x breaks = list_any (holds x) breaks

-- the boundaries above one, up to the last
abbrev pub boundaries_above : JobValue → ℕ → List ℕ
boundaries_above job slot = range_with_len (slot + 1) (job.shape.slots - slot)

-- where `go` ends: at the least boundary above this one at which a break holds, or at the last
unfoldable pub go_end : JobValue → List Breakpoint → ℕ → ℕ
go_end job breaks slot = unwrap_or (find (λ boundary. holds_any (machine_at job boundary) breaks) (boundaries_above job slot)) job.shape.slots

-- ---- lines

-- `slot S`
abbrev pub slot_line : ℕ → List ℕ
slot_line slot = codes "slot " ++ decimal slot ++ codes "\n"

-- `word 0xA 0xV`
abbrev pub word_line : ℕ → ℕ → List ℕ
word_line address word = codes "word " ++ hex_word address ++ codes " " ++ hex_word word ++ codes "\n"

abbrev pub state_text : State → List ℕ
state_text state.I = codes "I"
state_text state.S = codes "S"
state_text state.M = codes "M"
state_text state.ISD = codes "ISD"
state_text state.ISDI = codes "ISDI"
state_text state.IMD = codes "IMD"
state_text state.IMDS = codes "IMDS"
state_text state.IMDI = codes "IMDI"
state_text state.SMW = codes "SMW"
state_text state.SMWS = codes "SMWS"
state_text state.MSWB = codes "MSWB"
state_text state.MIWB = codes "MIWB"

-- `state C L NAME`
abbrev pub state_line : ℕ → ℕ → State → List ℕ
state_line c line name = codes "state " ++ decimal c ++ codes " " ++ decimal line ++ codes " " ++ state_text name ++ codes "\n"

-- `-` where the core wants nothing
abbrev pub left_text : Option ℕ → List ℕ
left_text None = codes "-"
left_text (Some slots) = decimal slots

-- `left C X`
abbrev pub left_line : ℕ → Option ℕ → List ℕ
left_line c slots = codes "left " ++ decimal c ++ codes " " ++ left_text slots ++ codes "\n"

-- the first two lines that a listing has of a core
abbrev pub regs_lines : ℕ → CoreState → List ℕ
regs_lines c k = core_line c k.pc k.retired k.status ++ regs_line k.regs

-- ---- a run of commands

-- where a script stands: at a boundary, with the breaks so far
pub record Place : Type 0 where
  pub slot : ℕ
  pub breaks : List Breakpoint

-- where a command leads
unfoldable pub after : JobValue → Place → Command → Place
after job place (Step k) = record place { slot = min (place.slot + k) job.shape.slots }
after job place (Break b) = record place { breaks = place.breaks ++ b ∷ [] }
after job place Go = record place { slot = go_end job place.breaks place.slot }
after job place (Regs c) = place
after job place (Held c) = place
after job place (Word address) = place
after job place (StateCommand c line) = place
after job place (Left c) = place

-- what a command prints, of the machine at the boundary to which it led
unfoldable pub printed : JobValue → ℕ → Command → List ℕ
printed job slot (Step k) = slot_line slot
printed job slot (Break b) = []
printed job slot Go = slot_line slot
printed job slot (Regs c) = regs_lines c ((machine_at job slot).cores c)
printed job slot (Held c) = held_line ((machine_at job slot).cores c).held
printed job slot (Word address) = word_line address (number_of (bytes_from address 4 (machine_at job slot).memory))
printed job slot (StateCommand c line) = state_line c line (state_of (machine_at job slot) c line)
printed job slot (Left c) = left_line c (slots_left (plan_of job) (machine_at job slot) c)

unfoldable pub output_from : JobValue → Place → List Command → List ℕ
output_from job place [] = []
output_from job place (command ∷ commands) = printed job (after job place command).slot command ++ output_from job (after job place command) commands

-- what commands print, from the machine's start on
abbrev pub output_of : JobValue → List Command → List ℕ
output_of job commands = output_from job (record { slot = 0; breaks = [] }) commands

-- ---- the whole

abbrev pub output_if : JobValue → Result (List Command) ScriptFault → Result (List ℕ) ScriptFault
output_if job (Err fault) = Err fault
output_if job (Ok commands) = Ok (output_of job commands)

-- what a script comes to on a job: the text of its commands, or its first fault
unfoldable pub debugged : JobValue → List ℕ → Result (List ℕ) ScriptFault
debugged job script = output_if job (script_of job.shape script)

-- the text is what the script writes of the job; the script's first fault is this
abbrev pub IsOutput : JobValue → List ℕ → List ℕ → Type 0
IsOutput job script text = debugged job script ≡ Ok text

abbrev pub HasScriptFault : JobValue → List ℕ → ScriptFault → Type 0
HasScriptFault job script fault = debugged job script ≡ Err fault
