use Rattle.waiting_laws.proofs.Rows.{left_is_some}
use Rattle.waiting_laws.proofs.left_is_some.Goals as goal

pub returns : goal.returns
returns c = left_is_some
