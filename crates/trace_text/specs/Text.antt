-- The text of a trace.
use Rattle.std.specs.Prelude.{◌≤◌, ℕ, List, ◌++◌, length, codes, decimal}
use Rattle.std.specs.List.{All}
use Rattle.pmsi_model.specs.declared.Action.{Action}
use Rattle.pmsi_model.specs.declared.Action.TheVariants.{Idle, Post, Fill, PostFill, Back}
use Rattle.pmsi_model.specs.declared.limits.TheConstants.{MAX_CORES, MAX_SLOTS}
use Rattle.pmsi_model.specs.Lines.{action_lines}
use Rattle.pmsi_model.specs.Slots.{plain_plan}
use Rattle.trace_text.specs.declared.trace.TheConstants.{MAX_LINE}
use Rattle.trace_text.specs.declared.trace.Trace.{Trace}

-- `pmsi trace 1` and `cores N`
abbrev pub head_text : ℕ → List ℕ
head_text cores = codes "pmsi trace 1\n" ++ codes "cores " ++ decimal cores ++ codes "\n"

-- `end K`
abbrev pub end_text : ℕ → List ℕ
end_text count = codes "end " ++ decimal count ++ codes "\n"

-- between these the line of each action, which are the lines that a listing has
unfoldable pub trace_of : Trace → List ℕ
trace_of trace = head_text trace.cores ++ action_lines (plain_plan trace.cores) 0 trace.actions ++ end_text (length trace.actions)

-- the line that an action names, if it names one, is one that a memory can have
abbrev pub HasLine : Action → Type 0
HasLine Idle = Unit {0}
HasLine (Post name line) = line ≤ MAX_LINE
HasLine (Fill line) = line ≤ MAX_LINE
HasLine (PostFill name line) = line ≤ MAX_LINE
HasLine (Back line kept) = line ≤ MAX_LINE

-- within the limits
pub record IsTrace (trace : Trace) : Type 0 where
  pub some : 1 ≤ trace.cores
  pub few : trace.cores ≤ MAX_CORES
  pub slots : length trace.actions ≤ MAX_SLOTS
  pub lines : All HasLine trace.actions
