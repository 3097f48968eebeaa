use Rattle.pmsi_model.proofs.Worked.{victim_already_demanded}
use Rattle.pmsi_model.proofs.examples.victim_already_demanded.Goals as goal

pub returns : goal.returns
returns c = victim_already_demanded
