use Rattle.std.proofs.Common.{arith}
use Rattle.asm_operands.proofs.Texts.{cut}
use Rattle.asm_operands.proofs.lexeme.lexeme_of.Goals as goal

pub range-requires-clause-start_le_end : goal.range-requires-clause-start_le_end
range-requires-clause-start_le_end c = let token = cut c.args.line.now c.args.token c.utf8.line c.requires.token in omega arith

pub range-requires-clause-start_boundary : goal.range-requires-clause-start_boundary
range-requires-clause-start_boundary c = λ _. (cut c.args.line.now c.args.token c.utf8.line c.requires.token).start

pub range-requires-clause-end_boundary : goal.range-requires-clause-end_boundary
range-requires-clause-end_boundary c = (cut c.args.line.now c.args.token c.utf8.line c.requires.token).end

pub overflow_add-result : goal.overflow_add-result
overflow_add-result c = let token = cut c.args.line.now c.args.token c.utf8.line c.requires.token in omega arith

pub returns : goal.returns
returns c = let token = cut c.args.line.now c.args.token c.utf8.line c.requires.token in grind (arith, token.text)
