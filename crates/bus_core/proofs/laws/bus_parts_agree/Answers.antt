use Rattle.bus_core.proofs.Agree.{parts_agree}
use Rattle.bus_core.proofs.laws.bus_parts_agree.Goals as goal

pub returns : goal.returns
returns c = parts_agree
