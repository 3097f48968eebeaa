use Rattle.std.proofs.Common.{drop, replicate, None}
use Rattle.job_text.specs.Joins.{first_byte}
use Rattle.job_text.proofs.NamedCells.{IsNaming}
use Rattle.job_text.proofs.joining.named_bytes.Given as goal

abbrev pub invariant-loop-image : goal.invariant-loop-image
invariant-loop-image l = IsNaming (replicate l.fn.shape.memory None) l.cells.items (first_byte l.images) (first_byte (drop l.image-index l.images))
