use Rattle.std.proofs.Common.{refl}
use Rattle.job_text.specs.Faults.{missing_head}
use Rattle.job_text.proofs.judging.missing_head.Goals as goal

pub loop-word-init : goal.loop-word-init
unfolding missing_head
loop-word-init c said has = refl
