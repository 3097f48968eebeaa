use Rattle.pmsi_model.proofs.Worked.{adds_and_exits}
use Rattle.pmsi_model.proofs.examples.adds_and_exits.Goals as goal

pub returns : goal.returns
returns c = adds_and_exits
