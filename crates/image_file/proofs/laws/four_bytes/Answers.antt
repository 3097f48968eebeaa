use Rattle.image_file.proofs.Numbers.{numbers_agree}
use Rattle.image_file.proofs.laws.four_bytes.Goals as goal

pub returns : goal.returns
returns c = numbers_agree
