use Rattle.job_text.specs.Joins.{IsBeyond}
use Rattle.job_text.proofs.PieceBytes.{end, first_are, here, left_start, next, not_past}
use Rattle.job_text.proofs.naming.past_in.Goals as goal

pub loop-piece-init : goal.loop-piece-init
loop-piece-init c = left_start (IsBeyond c.args.memory) (not_past c.args.memory) c.args.pieces.now c.requires

pub past_in_piece-requires : goal.past_in_piece-requires
past_in_piece-requires c =
    let are = first_are c.args.pieces.now c.loop-piece.piece-index c.loop-piece.invariant.least c.piece-item.result c.loop-piece-test.true c.piece-item.is c.loop-piece.invariant.are in
    record { some = are.1; memory = are.2 }

pub loop-piece-preserved : goal.loop-piece-preserved
loop-piece-preserved c =
    next (IsBeyond c.args.memory) (not_past c.args.memory) c.args.pieces.now c.loop-piece.piece-index c.piece-item.result c.loop-piece-test.true c.piece-item.is c.loop-piece.invariant c.in_default.ensures

pub returns-in-Some : goal.returns-in-Some
returns-in-Some c =
    here (IsBeyond c.args.memory) (not_past c.args.memory) c.args.pieces.now c.loop-piece.piece-index c.piece-item.result c.in-Some.address c.loop-piece-test.true c.piece-item.is c.loop-piece.invariant c.in-Some.ensures

pub returns : goal.returns
returns c = end (IsBeyond c.args.memory) (not_past c.args.memory) c.args.pieces.now c.loop-piece.piece-index c.loop-piece-test.false c.loop-piece.invariant
