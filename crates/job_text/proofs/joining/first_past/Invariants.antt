use Rattle.std.proofs.Common.{◌≡◌}
use Rattle.job_text.proofs.ImageBytes.{AreWithinTo}
use Rattle.job_text.proofs.joining.first_past.Given as goal

abbrev pub invariant-loop-image : goal.invariant-loop-image
invariant-loop-image l = record {
  at : l.core ≡ l.image-index;
  within : AreWithinTo l.shape l.images l.image-index;
}
