use Rattle.std.proofs.Common.{arith}
use Rattle.std.proofs.lemmas.Slice.Eq.{bytes_eq-Decides}
use Rattle.asm_operands.specs.NameTable.{stored}
use Rattle.asm_operands.proofs.names.store.Goals as goal

pub returns-in-Ok-clause-others : goal.returns-in-Ok-clause-others
unfolding stored
returns-in-Ok-clause-others c other apart =
    c.in-Ok.ensures.updates.2 (record c.args.name { now = other }) (grind (arith, bytes_eq-Decides c.args.name.now other, apart))
