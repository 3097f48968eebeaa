use Rattle.pmsi_model.proofs.Worked.{largest_bound}
use Rattle.pmsi_model.proofs.examples.largest_bound.Goals as goal

pub returns : goal.returns
returns c = largest_bound
