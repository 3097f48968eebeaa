use Rattle.std.proofs.Common.{◌≡◌, ap, length, arith, get_or}
use Rattle.job_text.proofs.NamedCells.{named_first, named_next, named_whole}
use Rattle.job_text.proofs.naming.name_piece.Goals as goal

pub loop-byte-init : goal.loop-byte-init
loop-byte-init c = record { at = omega arith; named = named_first c.args.cells.now.items c.args.piece.now }

pub index-requires : goal.index-requires
index-requires c =
    let count : length c.as_slice-byte-items.result.now ≡ length c.args.piece.now.bytes = ap length c.as_slice-byte-items.ensures in
    omega (arith, c.loop-byte.invariant.named.count, c.loop-byte.invariant.at, c.loop-byte.cells.ok, count)

pub loop-byte-preserved : goal.loop-byte-preserved
loop-byte-preserved c =
    let count : length c.as_slice-byte-items.result.now ≡ length c.args.piece.now.bytes = ap length c.as_slice-byte-items.ensures in
    record {
      at = omega (arith, c.loop-byte.invariant.at);
      named = named_next c.args.cells.now.items c.loop-byte.cells.items c.args.piece.now c.loop-byte.byte-index c.loop-byte.address c.index.result.now c.or.result _ (omega (arith, count)) c.loop-byte.invariant.at
          (ap (λ bytes. get_or bytes c.loop-byte.byte-index 0) c.as_slice-byte-items.ensures) c.requires c.loop-byte.invariant.named c.index.ensures c.or.ensures;
    }

pub returns : goal.returns
returns c =
    let count : length c.as_slice-byte-items.result.now ≡ length c.args.piece.now.bytes = ap length c.as_slice-byte-items.ensures in
    named_whole c.args.cells.now.items c.loop-byte.cells.items c.args.piece.now c.loop-byte.byte-index (omega (arith, count)) c.loop-byte.invariant.named
