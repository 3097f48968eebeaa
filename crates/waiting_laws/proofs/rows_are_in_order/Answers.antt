use Rattle.waiting_laws.proofs.Orders.{rows_are_in_order}
use Rattle.waiting_laws.proofs.rows_are_in_order.Goals as goal

pub returns : goal.returns
returns c = rows_are_in_order
