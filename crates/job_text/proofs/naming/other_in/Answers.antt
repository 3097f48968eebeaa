use Rattle.std.proofs.Common.{length}
use Rattle.job_text.specs.Joins.{IsOther, cell_at}
use Rattle.job_text.proofs.NamedCells.{below_first}
use Rattle.job_text.proofs.PieceBytes.{end, first_are, here, left_start, next, not_other}
use Rattle.job_text.proofs.naming.other_in.Goals as goal

pub loop-piece-init : goal.loop-piece-init
loop-piece-init c = record {
  left = left_start (λ address byte. IsOther byte (cell_at c.args.cells.now address)) (not_other c.args.cells.now) c.args.pieces.now c.requires.pieces;
  below = c.requires.below;
}

pub other_in_piece-requires : goal.other_in_piece-requires
other_in_piece-requires c = record {
  memory = (first_are c.args.pieces.now c.loop-piece.piece-index c.loop-piece.invariant.left.least c.piece-item.result c.loop-piece-test.true c.piece-item.is c.loop-piece.invariant.left.are).2;
  below = (below_first (length c.args.cells.now) c.loop-piece.piece-index c.args.pieces.now c.piece-item.result c.loop-piece-test.true c.piece-item.is c.loop-piece.invariant.below).0;
}

pub loop-piece-preserved : goal.loop-piece-preserved
loop-piece-preserved c = record {
  left = next (λ address byte. IsOther byte (cell_at c.args.cells.now address)) (not_other c.args.cells.now) c.args.pieces.now c.loop-piece.piece-index c.piece-item.result c.loop-piece-test.true c.piece-item.is
      c.loop-piece.invariant.left c.in_default.ensures;
  below = (below_first (length c.args.cells.now) c.loop-piece.piece-index c.args.pieces.now c.piece-item.result c.loop-piece-test.true c.piece-item.is c.loop-piece.invariant.below).1;
}

pub returns-in-Some : goal.returns-in-Some
returns-in-Some c =
    here (λ address byte. IsOther byte (cell_at c.args.cells.now address)) (not_other c.args.cells.now) c.args.pieces.now c.loop-piece.piece-index c.piece-item.result c.in-Some.address c.loop-piece-test.true
    c.piece-item.is c.loop-piece.invariant.left c.in-Some.ensures

pub returns : goal.returns
returns c = end (λ address byte. IsOther byte (cell_at c.args.cells.now address)) (not_other c.args.cells.now) c.args.pieces.now c.loop-piece.piece-index c.loop-piece-test.false c.loop-piece.invariant.left
