use Rattle.image_file.proofs.PieceLoop.{IsSoFar}
use Rattle.image_file.proofs.pieces.pieces_of.Given as goal

abbrev pub invariant-loop : goal.invariant-loop
invariant-loop l = IsSoFar l.bytes l.counter l.cursor l.pieces.items
