use Rattle.std.proofs.Common.{◌-◌, length}
use Rattle.asm_operands.proofs.Places.{Reached}
use Rattle.asm_operands.proofs.lexer.tokens.Given as goal

abbrev pub invariant-loop-place : goal.invariant-loop-place
invariant-loop-place l = Reached l.code l.place l.tokens.items

abbrev pub decreases-loop-place : goal.decreases-loop-place
decreases-loop-place l = length l.code - l.place
