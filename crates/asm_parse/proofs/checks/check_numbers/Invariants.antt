use Rattle.std.proofs.Common.{◌≡◌, drop, map}
use Rattle.asm_parse.specs.Assembly.{first_wrong}
use Rattle.asm_parse.specs.Items.{number_of}
use Rattle.asm_parse.proofs.checks.check_numbers.Given as goal

abbrev pub invariant-loop-expr : goal.invariant-loop-expr
invariant-loop-expr l = first_wrong (map (number_of l.width) l.numbers) ≡ first_wrong (map (number_of l.width) (drop l.expr-index l.numbers))
