use Rattle.std.proofs.Common.{◌≡◌, ◌++◌, take}
use Rattle.std.specs.List.{flat_map}
use Rattle.pmsi_model.specs.Lines.{held_text}
use Rattle.core_lines.proofs.lines.push_held_line.Given as goal

abbrev pub invariant-loop-held : goal.invariant-loop-held
invariant-loop-held l = l.out.items ≡ l.initial.out.items ++ flat_map held_text (take l.held-index l.held-items)
