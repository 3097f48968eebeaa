use Rattle.pmsi_model.proofs.Worked.{read_before_write}
use Rattle.pmsi_model.proofs.examples.read_before_write.Goals as goal

pub returns : goal.returns
returns c = read_before_write
