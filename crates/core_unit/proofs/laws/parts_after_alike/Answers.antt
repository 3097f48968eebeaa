use Rattle.core_unit.proofs.Alike.{parts_after_alike}
use Rattle.core_unit.proofs.laws.parts_after_alike.Goals as goal

pub returns : goal.returns
returns c = parts_after_alike
