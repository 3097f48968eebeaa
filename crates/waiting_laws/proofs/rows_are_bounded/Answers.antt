use Rattle.waiting_laws.proofs.Rows.{rows_are_bounded}
use Rattle.waiting_laws.proofs.rows_are_bounded.Goals as goal

pub returns : goal.returns
returns c = rows_are_bounded
