use Rattle.core_lines.proofs.Parts.{regs_further}
use Rattle.core_lines.proofs.lines.push_regs_line.Goals as goal

pub loop-number-preserved : goal.loop-number-preserved
loop-number-preserved c = regs_further _ _ _ c.args.regs.now c.loop-number.number c.loop-number-test.true c.loop-number.invariant c.in_ok-push_reg.ensures
