use Rattle.std.proofs.Common.{length, All, ◌^◌, ◌<◌, sym, subst, arith}
use Rattle.image_file.proofs.Images.{pieces_few, pieces_small}
use Rattle.image_file.proofs.writing.write_image.Goals as goal

pub overflow_cast-pieces : goal.overflow_cast-pieces
overflow_cast-pieces c =
    let is = c.pieces-pieces.ensures.image in
    rw c.pieces-pieces.ensures.pieces (omega (arith, pieces_few c.args.image.now.pieces 0 (omega arith) is.pieces))

pub push_pieces-requires : goal.push_pieces-requires
push_pieces-requires c =
    let is = c.pieces-pieces.ensures.image in
    subst (λ pieces. All (λ piece. length piece.bytes < 2 ^ 32) pieces) (sym c.pieces-pieces.ensures.pieces) (pieces_small c.args.image.now.pieces is.pieces)
