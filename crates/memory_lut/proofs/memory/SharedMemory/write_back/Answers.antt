-- Memory stays as it has to be.
use Rattle.memory_lut.proofs.Keeps.{IsShared-written_back}
use Rattle.memory_lut.proofs.memory.SharedMemory.write_back.Goals as goal

pub invariant_of-self : goal.invariant_of-self
invariant_of-self c =
    let can = rw (← c.self.view_is) at c.requires in
    rw (c.set.ensures, c.write_line.ensures) (IsShared-written_back _ c.args.core c.args.line c.args.words.now c.self.invariant.0 can, c.self.invariant.1)

pub returns-clause-shared : goal.returns-clause-shared
returns-clause-shared c =
    let can = rw (← c.self.view_is) at c.requires in
    rw (c.set.ensures, c.write_line.ensures) (IsShared-written_back _ c.args.core c.args.line c.args.words.now c.self.invariant.0 can)
