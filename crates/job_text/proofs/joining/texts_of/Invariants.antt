use Rattle.std.proofs.Common.{◌≡◌, map, take}
use Rattle.job_text.specs.Joins.{AreTexts}
use Rattle.job_text.proofs.joining.texts_of.Given as goal

abbrev pub invariant-loop-image : goal.invariant-loop-image
invariant-loop-image l = record {
  texts : l.texts.items ≡ map (λ image. image.text) (take l.image-index l.images);
  fit : AreTexts l.texts.items;
}
