use Rattle.pmsi_model.proofs.Worked.{open_at_the_end}
use Rattle.pmsi_model.proofs.examples.open_at_the_end.Goals as goal

pub returns : goal.returns
returns c = open_at_the_end
