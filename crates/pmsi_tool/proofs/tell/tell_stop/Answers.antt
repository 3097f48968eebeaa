use Rattle.std.proofs.Common.{inl}
use Rattle.pmsi_tool.proofs.tell.tell_stop.Goals as goal

pub returns-in-ReadFault : goal.returns-in-ReadFault
returns-in-ReadFault g c = rw c.in-ReadFault.is (inl c.tell.ensures)
