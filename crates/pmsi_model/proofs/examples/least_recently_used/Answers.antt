use Rattle.pmsi_model.proofs.Worked.{least_recently_used}
use Rattle.pmsi_model.proofs.examples.least_recently_used.Goals as goal

pub returns : goal.returns
returns c = least_recently_used
