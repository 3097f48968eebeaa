use Rattle.std.proofs.Common.{refl, sym, arith, append-nil}
use Rattle.job_text.specs.Plans.{core_lines}
use Rattle.job_text.proofs.CoreLines.{more_cores}
use Rattle.job_text.proofs.printing.push_cores.Goals as goal

pub loop-program-init : goal.loop-program-init
unfolding core_lines
loop-program-init c = record { core = refl; text = sym (append-nil c.args.out.now.items) }

pub loop-program-preserved : goal.loop-program-preserved
loop-program-preserved c = record {
  core = omega (arith, c.loop-program.invariant.core);
  text = more_cores c.args.out.now.items c.loop-program.out.items c.push_core.new.out.items c.args.programs.now c.program-item.result c.loop-program.program-index c.loop-program.core c.loop-program-test.true
      c.program-item.is c.loop-program.invariant.core c.loop-program.invariant.text c.in_ok-push_core.ensures;
}
