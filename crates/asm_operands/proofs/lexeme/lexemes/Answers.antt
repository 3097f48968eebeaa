use Rattle.std.proofs.Common.{arith}
use Rattle.std.proofs.lemmas.Grind.{common_steps}
use Rattle.asm_operands.proofs.Texts.{line_read}
use Rattle.asm_operands.proofs.lexeme.lexemes.Goals as goal

pub returns-clause-lexemes : goal.returns-clause-lexemes
returns-clause-lexemes c = grind (arith, common_steps, line_read)
