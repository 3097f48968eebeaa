use Rattle.core_unit.proofs.Told.{behind_is_told}
use Rattle.core_unit.proofs.laws.behind_is_told.Goals as goal

pub returns : goal.returns
returns c = behind_is_told
