use Rattle.job_text.specs.Joins.{IsLeast}
use Rattle.job_text.proofs.FirstDifferences.{HasOtherTo}
use Rattle.job_text.proofs.joining.least_other.Given as goal

abbrev pub invariant-loop-image : goal.invariant-loop-image
invariant-loop-image l = IsLeast (HasOtherTo l.images l.cells l.image-index) l.least
