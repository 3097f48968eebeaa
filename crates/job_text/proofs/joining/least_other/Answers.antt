use Rattle.std.proofs.Common.{length, subst, sym}
use Rattle.job_text.specs.Joining.{byte_in}
use Rattle.job_text.specs.Joins.{AreBelow, IsLeast, IsOther, cell_at}
use Rattle.job_text.proofs.FirstDifferences.{HasOtherTo, least_all, least_next, least_none}
use Rattle.job_text.proofs.ImageBytes.{image_below}
use Rattle.job_text.proofs.joining.least_other.Goals as goal

pub loop-image-init : goal.loop-image-init
loop-image-init c = least_none c.args.images.now c.args.cells.now

pub other_in-requires-clause-below : goal.other_in-requires-clause-below
other_in-requires-clause-below c =
    subst (AreBelow (length c.args.cells.now)) (sym c.pieces.ensures.pieces)
    (image_below c.args.shape c.args.images.now c.loop-image.image-index (length c.args.cells.now) c.image-item.result c.requires.within c.requires.cells.count c.loop-image-test.true c.image-item.is
    c.pieces.ensures.image.pieces)

pub loop-image-preserved : goal.loop-image-preserved
loop-image-preserved c =
    let found = subst (λ pieces. IsLeast (λ address. IsOther (byte_in pieces address) (cell_at c.args.cells.now address)) c.other_in.result) c.pieces.ensures.pieces c.other_in.ensures in
    subst (IsLeast (HasOtherTo c.args.images.now c.args.cells.now _)) (sym c.lower-least.ensures)
    (least_next c.args.images.now c.args.cells.now c.loop-image.image-index c.image-item.result c.loop-image-test.true c.image-item.is c.loop-image.least c.other_in.result c.loop-image.invariant found)

pub returns : goal.returns
returns c = least_all c.args.images.now c.args.cells.now c.loop-image.image-index c.loop-image-test.false c.loop-image.least c.loop-image.invariant
