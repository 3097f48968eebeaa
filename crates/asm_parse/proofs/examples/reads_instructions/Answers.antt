use Rattle.asm_parse.proofs.Worked.{reads_instructions}
use Rattle.asm_parse.proofs.examples.reads_instructions.Goals as goal

pub returns : goal.returns
returns c = reads_instructions
