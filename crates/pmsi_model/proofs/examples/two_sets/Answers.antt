use Rattle.pmsi_model.proofs.Worked.{two_sets}
use Rattle.pmsi_model.proofs.examples.two_sets.Goals as goal

pub returns : goal.returns
returns c = two_sets
