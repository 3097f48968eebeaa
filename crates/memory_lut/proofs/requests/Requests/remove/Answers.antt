-- The table without the core's request.
use Rattle.memory_lut.proofs.Entries.{table_emptied, IsTable-emptied}
use Rattle.memory_lut.proofs.requests.Requests.remove.Goals as goal

pub invariant_of-self : goal.invariant_of-self
invariant_of-self c = IsTable-emptied c.self.inside.next c.args.core c.self.inside.entries.items c.self.invariant

pub returns : goal.returns
returns c = rw (← c.self.view_is) (table_emptied c.self.inside.next c.args.core c.self.inside.entries.items c.self.invariant)
