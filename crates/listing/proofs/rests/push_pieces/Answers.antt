use Rattle.std.proofs.Common.{refl}
use Rattle.listing.specs.Pieces.{piece_text, past_piece}
use Rattle.listing.proofs.Advances.{one_more, all_told}
use Rattle.listing.proofs.rests.push_pieces.Goals as goal

pub loop-c-preserved : goal.loop-c-preserved
loop-c-preserved c =
    let more = one_more (past_piece c.args.piece c.args.slot) (piece_text c.args.piece c.args.slot) c.loop-c.c c.args.rests.now c.loop-c.rests c.index-rests-c.result
    _ c.push_piece.new.rest c.args.out.now.items c.loop-c.out.items c.push_piece.new.out.items c.loop-c-test.true c.loop-c.invariant.rests
    refl c.in_ok-push_piece.ensures.1 c.loop-c.invariant.text c.in_ok-push_piece.ensures.0 in
    record { text = more.0; rests = more.1 }

pub returns : goal.returns
returns c = all_told (past_piece c.args.piece c.args.slot) (piece_text c.args.piece c.args.slot) c.loop-c.c c.args.rests.now c.loop-c.rests c.args.out.now.items
    c.loop-c.out.items c.loop-c-test.false c.loop-c.invariant.rests c.loop-c.invariant.text
