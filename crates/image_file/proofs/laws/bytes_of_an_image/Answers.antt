use Rattle.image_file.proofs.Images.{image_size}
use Rattle.image_file.proofs.laws.bytes_of_an_image.Goals as goal

pub returns : goal.returns
returns c = image_size
