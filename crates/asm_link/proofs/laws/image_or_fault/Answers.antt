use Rattle.asm_link.proofs.HasImage.{image_or_fault, never_memory}
use Rattle.asm_link.proofs.laws.image_or_fault.Goals as goal

pub returns : goal.returns
returns c = record { either = image_or_fault; never_memory = never_memory }
