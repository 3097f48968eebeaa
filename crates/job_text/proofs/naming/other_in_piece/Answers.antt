use Rattle.std.proofs.Common.{◌≡◌, ◌∙◌, ap, sym, refl, Some, get_or, length, arith}
use Rattle.job_text.specs.Joins.{cell_at}
use Rattle.job_text.proofs.NamedCells.{agree_end, agree_first, agree_next, other_cell, other_here, same_cell}
use Rattle.job_text.proofs.naming.other_in_piece.Goals as goal

pub loop-byte-init : goal.loop-byte-init
loop-byte-init c = record { at = omega arith; agree = agree_first c.args.piece.now c.args.cells.now }

pub bounds-cells-address : goal.bounds-cells-address
bounds-cells-address c =
    let count : length c.as_slice-byte-items.result.now ≡ length c.args.piece.now.bytes = ap length c.as_slice-byte-items.ensures in
    omega (arith, c.loop-byte.invariant.at, c.requires.below, count)

pub returns-then-ne : goal.returns-then-ne
returns-then-ne c =
    let count : length c.as_slice-byte-items.result.now ≡ length c.args.piece.now.bytes = ap length c.as_slice-byte-items.ensures in
    other_here c.args.piece.now c.args.cells.now c.loop-byte.byte-index c.loop-byte.address (cell_at c.args.cells.now c.loop-byte.address) (get_or c.as_slice-byte-items.result.now c.loop-byte.byte-index 0)
    (omega (arith, count)) c.loop-byte.invariant.at (ap (λ bytes. get_or bytes c.loop-byte.byte-index 0) c.as_slice-byte-items.ensures) refl c.loop-byte.invariant.agree
    (other_cell (cell_at c.args.cells.now c.loop-byte.address) (Some (get_or c.as_slice-byte-items.result.now c.loop-byte.byte-index 0)) (sym c.ne.ensures ∙ c.if-ne.true))

pub loop-byte-preserved : goal.loop-byte-preserved
loop-byte-preserved c =
    let count : length c.as_slice-byte-items.result.now ≡ length c.args.piece.now.bytes = ap length c.as_slice-byte-items.ensures in
    record {
      at = omega (arith, c.loop-byte.invariant.at);
      agree = agree_next c.args.piece.now c.args.cells.now c.loop-byte.byte-index c.loop-byte.address (cell_at c.args.cells.now c.loop-byte.address) (get_or c.as_slice-byte-items.result.now c.loop-byte.byte-index 0)
          (omega (arith, count)) c.loop-byte.invariant.at (ap (λ bytes. get_or bytes c.loop-byte.byte-index 0) c.as_slice-byte-items.ensures) refl c.loop-byte.invariant.agree
          (same_cell (cell_at c.args.cells.now c.loop-byte.address) (Some (get_or c.as_slice-byte-items.result.now c.loop-byte.byte-index 0)) (sym c.ne.ensures ∙ c.if-ne.false));
    }

pub returns : goal.returns
returns c =
    let count : length c.as_slice-byte-items.result.now ≡ length c.args.piece.now.bytes = ap length c.as_slice-byte-items.ensures in
    agree_end c.args.piece.now c.args.cells.now c.loop-byte.address (omega (arith, count, c.loop-byte.invariant.at)) c.loop-byte.invariant.agree
