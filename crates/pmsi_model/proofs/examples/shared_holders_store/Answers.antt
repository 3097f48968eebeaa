use Rattle.pmsi_model.proofs.Worked.{shared_holders_store}
use Rattle.pmsi_model.proofs.examples.shared_holders_store.Goals as goal

pub returns : goal.returns
returns c = shared_holders_store
