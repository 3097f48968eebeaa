use Rattle.std.proofs.Common.{◌≡◌}
use Rattle.job_text.proofs.FirstDifferences.{NoneTo}
use Rattle.job_text.proofs.joining.first_other.Given as goal

abbrev pub invariant-loop-image : goal.invariant-loop-image
invariant-loop-image l = record {
  at : l.core ≡ l.image-index;
  none : NoneTo l.images l.address l.cell l.image-index;
}
