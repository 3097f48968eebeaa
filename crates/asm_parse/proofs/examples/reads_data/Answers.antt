use Rattle.asm_parse.proofs.Worked.{reads_data}
use Rattle.asm_parse.proofs.examples.reads_data.Goals as goal

pub returns : goal.returns
returns c = reads_data
