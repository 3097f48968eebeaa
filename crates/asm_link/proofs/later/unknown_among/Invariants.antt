use Rattle.std.proofs.Common.{◌≡◌, map, drop}
use Rattle.asm_operands.specs.Meanings.{expr}
use Rattle.asm_parse.specs.Assembly.{first_of, unknown_in}
use Rattle.asm_link.specs.Values.{held}
use Rattle.asm_link.proofs.later.unknown_among.Given as goal

abbrev pub invariant-loop-number : goal.invariant-loop-number
invariant-loop-number l =
    first_of (map (λ e. unknown_in (held l.names) (expr e)) l.numbers) ≡ first_of (map (λ e. unknown_in (held l.names) (expr e)) (drop l.number-index l.numbers))
