use Rattle.std.proofs.Common.{inl}
use Rattle.pmsi_tool.proofs.tell.complain.Goals as goal

pub returns-in-Usage-clause-told : goal.returns-in-Usage-clause-told
returns-in-Usage-clause-told g c = rw c.in-Usage.is (inl c.tell.ensures)
