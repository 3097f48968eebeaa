use Rattle.tool_files.proofs.Orders.{one_next, some_first, some_next}
use Rattle.tool_files.proofs.laws.one_next.Goals as goal

pub returns : goal.returns
returns c = record { one = one_next; first = some_first; next = some_next }
