use Rattle.std.proofs.Common.{◌≡◌, ◌+◌, ◌≤◌, [], true, length}
use Rattle.std.specs.List.{All}
use Rattle.std.specs.Str.Lines.{lines}
use denote.Text.{Utf8}
use denote.Shadow.{shadow}
use Rattle.job_text.specs.Cutting.{rows_from, rows_of}
use Rattle.script_text.specs.Script.{commands_in, is_in_range}
use Rattle.script_text.proofs.script.read_lines.Given as goal

abbrev pub invariant-loop-line : goal.invariant-loop-line
invariant-loop-line l = record {
  utf8 : shadow (Utf8 l.rest);
  read : commands_in l.shape [] (rows_of l.text) ≡ commands_in l.shape l.commands.items (rows_from l.number (lines l.rest));
  range : All (λ command. is_in_range l.shape command ≡ true) l.commands.items;
  left : l.number + length l.rest ≤ length l.text + 1;
}

abbrev pub decreases-loop-line : goal.decreases-loop-line
decreases-loop-line l = length l.rest
