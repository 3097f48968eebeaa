use Rattle.std.proofs.Common.{length, map}
use Rattle.asm_operands.specs.Meanings.{expr, lexemes}
use Rattle.asm_operands.proofs.ExprLists.{GoesOn}
use Rattle.asm_operands.proofs.lists.take_exprs.Given as goal

abbrev pub invariant-loop-left : goal.invariant-loop-left
invariant-loop-left l = GoesOn (lexemes l.fn.tokens) (map expr l.found.items) (lexemes l.left)

abbrev pub decreases-loop-left : goal.decreases-loop-left
decreases-loop-left l = length (lexemes l.left)
