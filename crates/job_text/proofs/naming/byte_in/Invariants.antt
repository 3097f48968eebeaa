use Rattle.std.proofs.Common.{◌≡◌, drop}
use Rattle.job_text.specs.Joining.{byte_in}
use Rattle.job_text.proofs.naming.byte_in.Given as goal

abbrev pub invariant-loop-piece : goal.invariant-loop-piece
invariant-loop-piece l = byte_in l.pieces l.address ≡ byte_in (drop l.piece-index l.pieces) l.address
