use Rattle.asm_parse.proofs.Worked.{finds_faults}
use Rattle.asm_parse.proofs.examples.finds_faults.Goals as goal

pub returns : goal.returns
returns c = finds_faults
