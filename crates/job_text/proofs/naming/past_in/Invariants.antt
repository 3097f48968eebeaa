use Rattle.std.proofs.Common.{drop}
use Rattle.job_text.specs.Joins.{IsBeyond}
use Rattle.job_text.proofs.PieceBytes.{AreLeft, not_past}
use Rattle.job_text.proofs.naming.past_in.Given as goal

abbrev pub invariant-loop-piece : goal.invariant-loop-piece
invariant-loop-piece l = AreLeft (IsBeyond l.memory) (not_past l.memory) l.pieces (drop l.piece-index l.pieces)
