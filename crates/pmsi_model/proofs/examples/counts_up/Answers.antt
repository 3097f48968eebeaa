use Rattle.pmsi_model.proofs.Worked.{counts_up}
use Rattle.pmsi_model.proofs.examples.counts_up.Goals as goal

pub returns : goal.returns
returns c = counts_up
