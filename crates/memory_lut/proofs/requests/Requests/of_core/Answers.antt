-- The request in the core's entry.
use Rattle.std.proofs.Common.{sym}
use Rattle.memory_lut.proofs.ByStamp.{request_found}
use Rattle.memory_lut.proofs.requests.Requests.of_core.Goals as goal

pub returns : goal.returns
returns c =
    let entry = rw c.as_slice.ensures.value at c.entry_of.ensures in
    rw (← c.self.view_is) (sym (request_found c.self.inside.next c.args.core c.self.inside.entries.items _ c.self.invariant (sym entry)))
