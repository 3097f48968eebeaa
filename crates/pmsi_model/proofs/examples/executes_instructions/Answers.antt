use Rattle.pmsi_model.proofs.Worked.{executes_instructions}
use Rattle.pmsi_model.proofs.examples.executes_instructions.Goals as goal

pub returns : goal.returns
returns c = executes_instructions
