use Rattle.std.proofs.Common.{length, drop}
use Rattle.job_text.specs.Joining.{byte_in}
use Rattle.job_text.specs.Joins.{AreBelow}
use Rattle.job_text.proofs.NamedCells.{IsNaming}
use Rattle.job_text.proofs.naming.name_pieces.Given as goal

abbrev pub invariant-loop-piece : goal.invariant-loop-piece
invariant-loop-piece l = record {
  named : IsNaming l.fn.cells.items l.cells.items (byte_in l.pieces) (byte_in (drop l.piece-index l.pieces));
  below : AreBelow (length l.fn.cells.items) (drop l.piece-index l.pieces);
}
