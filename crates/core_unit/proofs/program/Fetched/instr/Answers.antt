use Rattle.core_unit.proofs.Programs.{has_row}
use Rattle.core_unit.proofs.program.Fetched.instr.Goals as goal

pub returns-clause-row : goal.returns-clause-row
returns-clause-row c = has_row c.self.inside.word c.self.inside.instr c.self.invariant.1 c.self.invariant.0
