-- Memory stays as it has to be.
use Rattle.memory_lut.proofs.Keeps.{IsShared-with_request}
use Rattle.memory_lut.proofs.memory.SharedMemory.post.Goals as goal

pub invariant_of-self : goal.invariant_of-self
invariant_of-self c =
    let core = rw (← c.self.view_is) at c.requires.core in
    let can = rw (← c.self.view_is) at c.requires.can in
    rw c.push.ensures (IsShared-with_request _ c.args.core c.args.line c.args.kind c.self.invariant.0 core can, c.self.invariant.1)

pub returns-clause-shared : goal.returns-clause-shared
returns-clause-shared c =
    let core = rw (← c.self.view_is) at c.requires.core in
    let can = rw (← c.self.view_is) at c.requires.can in
    rw c.push.ensures (IsShared-with_request _ c.args.core c.args.line c.args.kind c.self.invariant.0 core can)
