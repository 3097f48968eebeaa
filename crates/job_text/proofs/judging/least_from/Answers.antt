use Rattle.job_text.proofs.Judgings.{least_step, least_start}
use Rattle.job_text.proofs.judging.least_from.Goals as goal

pub loop-number-init : goal.loop-number-init
loop-number-init c = least_start

pub loop-number-preserved : goal.loop-number-preserved
loop-number-preserved c = least_step c.args.numbers.now c.args.start c.loop-number.number-index c.loop-number.least c.with_number-least.result c.loop-number-test.true c.loop-number.invariant c.with_number-least.ensures
