use Rattle.asm_link.proofs.OneImage.{one_image, no_fault}
use Rattle.asm_link.proofs.laws.assembles_once.Goals as goal

pub returns : goal.returns
returns c = record { one = one_image; faultless = no_fault }
