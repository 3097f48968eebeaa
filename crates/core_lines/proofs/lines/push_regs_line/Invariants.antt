use Rattle.std.proofs.Common.{◌≡◌, ◌++◌, take}
use Rattle.pmsi_model.specs.Lines.{reg_texts}
use Rattle.core_lines.proofs.lines.push_regs_line.Given as goal

abbrev pub invariant-loop-number : goal.invariant-loop-number
invariant-loop-number l = l.out.items ≡ l.initial.out.items ++ reg_texts 0 (take l.number l.regs)
