use Rattle.std.proofs.Common.{◌≡◌, ◌∙◌, ◌+◌, drop, length, replicate, None, refl, rules, subst, sym}
use Rattle.std.proofs.lemmas.List.{length-replicate}
use Rattle.job_text.specs.Joins.{AreBelow, AreNamed, first_byte}
use Rattle.job_text.proofs.ImageBytes.{image_below, images_end, images_next}
use Rattle.job_text.proofs.NamedCells.{IsNaming, naming_next, naming_start}
use Rattle.job_text.proofs.joining.named_bytes.Goals as goal

pub loop-image-init : goal.loop-image-init
loop-image-init c =
    let zeros : c.in_ok-cells.cells.items ≡ replicate c.args.shape.memory None = search rules in
    subst (λ before. IsNaming before c.in_ok-cells.cells.items (first_byte c.args.images.now) (first_byte c.args.images.now)) zeros (naming_start c.in_ok-cells.cells.items (first_byte c.args.images.now))

pub name_pieces-requires : goal.name_pieces-requires
name_pieces-requires c =
    let count = c.loop-image.invariant.count ∙ length-replicate c.args.shape.memory None in
    subst (AreBelow (length c.loop-image.cells.items)) (sym c.pieces.ensures.pieces)
    (image_below c.args.shape c.args.images.now c.loop-image.image-index (length c.loop-image.cells.items) c.image-item.result c.requires count c.loop-image-test.true c.image-item.is c.pieces.ensures.image.pieces)

pub loop-image-preserved : goal.loop-image-preserved
loop-image-preserved c =
    naming_next (replicate c.args.shape.memory None) c.loop-image.cells.items c.name_pieces.new.cells.items (first_byte c.args.images.now) (first_byte (drop c.loop-image.image-index c.args.images.now))
    (first_byte (drop (c.loop-image.image-index + 1) c.args.images.now)) c.image-item.result.pieces c.loop-image.invariant
    (subst (AreNamed c.loop-image.cells.items c.name_pieces.new.cells.items) c.pieces.ensures.pieces c.name_pieces.ensures)
    (λ address. images_next c.args.images.now c.loop-image.image-index address c.image-item.result c.loop-image-test.true c.image-item.is)

pub returns : goal.returns
returns c =
    images_end c.args.images.now c.args.shape.memory c.loop-image.image-index (replicate c.args.shape.memory None) c.loop-image.cells.items refl c.loop-image-test.false (length-replicate c.args.shape.memory None)
    c.loop-image.invariant
