use Rattle.std.proofs.Common.{drop, length}
use Rattle.job_text.specs.Joins.{AreBelow, IsOther, cell_at}
use Rattle.job_text.proofs.PieceBytes.{AreLeft, not_other}
use Rattle.job_text.proofs.naming.other_in.Given as goal

abbrev pub invariant-loop-piece : goal.invariant-loop-piece
invariant-loop-piece l = record {
  left : AreLeft (λ address byte. IsOther byte (cell_at l.cells address)) (not_other l.cells) l.pieces (drop l.piece-index l.pieces);
  below : AreBelow (length l.cells) (drop l.piece-index l.pieces);
}
