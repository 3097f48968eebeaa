use Rattle.core_unit.proofs.Alike.{parts_alike}
use Rattle.core_unit.proofs.laws.parts_alike.Goals as goal

pub returns : goal.returns
returns c = parts_alike
