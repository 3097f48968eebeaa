use Rattle.std.proofs.Common.{◌∙◌, sym}
use Rattle.job_text.proofs.PieceBytes.{byte_next, byte_here, byte_end}
use Rattle.job_text.proofs.naming.byte_in.Goals as goal

pub loop-piece-preserved : goal.loop-piece-preserved
loop-piece-preserved c =
    c.loop-piece.invariant ∙ byte_next c.args.pieces.now c.loop-piece.piece-index c.args.address c.piece-item.result c.loop-piece-test.true c.piece-item.is (sym c.byte_of_piece.ensures ∙ c.in_default.is)

pub returns-in-Some : goal.returns-in-Some
returns-in-Some c =
    sym (c.loop-piece.invariant ∙ byte_here c.args.pieces.now c.loop-piece.piece-index c.args.address c.piece-item.result c.in-Some.byte c.loop-piece-test.true c.piece-item.is (sym c.byte_of_piece.ensures ∙ c.in-Some.is))

pub returns : goal.returns
returns c = sym (c.loop-piece.invariant ∙ byte_end c.args.pieces.now c.loop-piece.piece-index c.args.address c.loop-piece-test.false)
