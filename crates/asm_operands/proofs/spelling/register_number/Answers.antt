use Rattle.std.proofs.Common.{◌<◌, subst, sym}
use Rattle.std.specs.Prelude.{IfSome}
use Rattle.asm_operands.specs.Numbers.{registers, register_named}
use Rattle.asm_operands.proofs.Registers.{is_small}
use Rattle.asm_operands.proofs.spelling.register_number.Goals as goal

pub returns-clause-number : goal.returns-clause-number
unfolding registers register_named
returns-clause-number c = c.value_in.ensures

pub returns-clause-within : goal.returns-clause-within
unfolding registers register_named
returns-clause-within c = subst (λ found. IfSome found (λ number. number < 32)) (sym c.value_in.ensures) (is_small c.args.text.now)
