use Rattle.std.proofs.Common.{◌≡◌, ◌++◌, take}
use Rattle.pmsi_model.specs.Lines.{action_lines}
use Rattle.trace_text.proofs.writing.push_action_lines.Given as goal

abbrev pub invariant-loop-place : goal.invariant-loop-place
invariant-loop-place l = l.out.items ≡ l.fn.out.items ++ action_lines l.table 0 (take l.place l.actions)
