-- The line of the request is one of memory, which stays as it has to be.
use Rattle.memory_lut.specs.Table.{request_at}
use Rattle.memory_lut.proofs.Keeps.{found_line, line_owned, line_within, IsShared-without_request}
use Rattle.memory_lut.proofs.memory.SharedMemory.fill.Goals as goal

pub serve-requires : goal.serve-requires
serve-requires c = line_owned _ c.in-Some.entry.line c.self.invariant.0
    (found_line _ c.args.core c.of_core.result c.in-Some.entry c.self.invariant.0 c.of_core.ensures c.in-Some.is)

pub copy_line-requires-clause-within : goal.copy_line-requires-clause-within
copy_line-requires-clause-within c = line_within _ c.in-Some.entry.line c.self.invariant.0
    (found_line _ c.args.core c.of_core.result c.in-Some.entry c.self.invariant.0 c.of_core.ensures c.in-Some.is)

pub invariant_of-self : goal.invariant_of-self
invariant_of-self c = rw (c.remove.ensures, c.serve.ensures) (IsShared-without_request _ c.args.core (request_at c.in-Some.entry) c.self.invariant.0, c.self.invariant.1)

pub returns-clause-shared : goal.returns-clause-shared
returns-clause-shared c = rw (c.remove.ensures, c.serve.ensures) (IsShared-without_request _ c.args.core (request_at c.in-Some.entry) c.self.invariant.0)
