use Rattle.pmsi_model.proofs.Worked.{two_writers}
use Rattle.pmsi_model.proofs.examples.two_writers.Goals as goal

pub returns : goal.returns
returns c = two_writers
