use Rattle.asm_parse.proofs.Worked.{assembles}
use Rattle.asm_parse.proofs.examples.assembles.Goals as goal

pub returns : goal.returns
returns c = assembles
