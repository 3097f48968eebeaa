use Rattle.std.proofs.Common.{length, drop, ◌+◌, ◌∷◌, [], arith}
use Rattle.job_text.specs.Joining.{byte_in}
use Rattle.job_text.proofs.NamedCells.{below_first, naming_end, naming_next, naming_start, pieces_next}
use Rattle.job_text.proofs.PieceBytes.{byte_end}
use Rattle.job_text.proofs.naming.name_pieces.Goals as goal

pub loop-piece-init : goal.loop-piece-init
loop-piece-init c = record { named = naming_start c.args.cells.now.items (byte_in c.args.pieces.now); below = c.requires }

pub name_piece-requires : goal.name_piece-requires
name_piece-requires c =
    let first = below_first (length c.args.cells.now.items) c.loop-piece.piece-index c.args.pieces.now c.piece-item.result c.loop-piece-test.true c.piece-item.is c.loop-piece.invariant.below in
    omega (arith, first.0, c.loop-piece.invariant.named.count)

pub loop-piece-preserved : goal.loop-piece-preserved
loop-piece-preserved c = record {
  named = naming_next c.args.cells.now.items c.loop-piece.cells.items c.name_piece.new.cells.items (byte_in c.args.pieces.now) (byte_in (drop c.loop-piece.piece-index c.args.pieces.now))
      (byte_in (drop (c.loop-piece.piece-index + 1) c.args.pieces.now)) (c.piece-item.result ∷ []) c.loop-piece.invariant.named c.name_piece.ensures
      (λ address. pieces_next c.args.pieces.now c.loop-piece.piece-index address c.piece-item.result c.loop-piece-test.true c.piece-item.is);
  below = (below_first (length c.args.cells.now.items) c.loop-piece.piece-index c.args.pieces.now c.piece-item.result c.loop-piece-test.true c.piece-item.is c.loop-piece.invariant.below).1;
}

pub returns : goal.returns
returns c =
    naming_end c.args.cells.now.items c.loop-piece.cells.items c.args.pieces.now (byte_in (drop c.loop-piece.piece-index c.args.pieces.now)) c.loop-piece.invariant.named
    (λ address. byte_end c.args.pieces.now c.loop-piece.piece-index address c.loop-piece-test.false)
