use Rattle.std.proofs.Common.{◌≡◌, map, drop}
use Rattle.asm_operands.specs.Meanings.{expr}
use Rattle.asm_operands.specs.Operands.{expr_value}
use Rattle.asm_parse.specs.Items.{fits_in}
use Rattle.asm_parse.specs.Assembly.{first_of, value_fault}
use Rattle.asm_link.specs.Values.{held}
use Rattle.asm_link.proofs.later.unfit_among.Given as goal

abbrev pub invariant-loop-number : goal.invariant-loop-number
invariant-loop-number l =
    first_of (map (λ e. value_fault (expr_value (held l.names) (expr e)) e.column (fits_in l.width)) l.numbers)
    ≡ first_of (map (λ e. value_fault (expr_value (held l.names) (expr e)) e.column (fits_in l.width)) (drop l.number-index l.numbers))
