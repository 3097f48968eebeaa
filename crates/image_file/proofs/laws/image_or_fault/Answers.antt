use Rattle.image_file.proofs.Images.{either, not_both, one_image}
use Rattle.image_file.proofs.Memory.{never_memory}
use Rattle.image_file.proofs.laws.image_or_fault.Goals as goal

pub returns-clause-either : goal.returns-clause-either
returns-clause-either c = either

pub returns-clause-not_both : goal.returns-clause-not_both
returns-clause-not_both c = not_both

pub returns-clause-one_image : goal.returns-clause-one_image
returns-clause-one_image c = one_image

pub returns-clause-never_memory : goal.returns-clause-never_memory
returns-clause-never_memory c = never_memory
