use Rattle.pmsi_model.proofs.Worked.{stores_and_loads}
use Rattle.pmsi_model.proofs.examples.stores_and_loads.Goals as goal

pub returns : goal.returns
returns c = stores_and_loads
