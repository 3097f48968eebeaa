use Rattle.pmsi_model.proofs.Worked.{takes_no_slot}
use Rattle.pmsi_model.proofs.examples.takes_no_slot.Goals as goal

pub returns : goal.returns
returns c = takes_no_slot
