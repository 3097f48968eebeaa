use Rattle.pmsi_model.proofs.Worked.{modified_victim}
use Rattle.pmsi_model.proofs.examples.modified_victim.Goals as goal

pub returns : goal.returns
returns c = modified_victim
