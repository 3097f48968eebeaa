-- All that stand are queued.
use Rattle.std.proofs.Common.{◌∙◌}
use Rattle.memory_lut.proofs.Searches.{queued_all}
use Rattle.memory_lut.proofs.requests.Requests.queued.Goals as goal

pub returns : goal.returns
returns c =
    let queued = rw c.as_slice.ensures.value at c.queued.ensures in
    rw (← c.self.view_is) (queued ∙ queued_all c.args.line c.self.inside.entries.items)
