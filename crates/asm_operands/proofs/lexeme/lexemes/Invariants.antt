use Rattle.std.proofs.Common.{◌≡◌, map, take}
use Rattle.asm_operands.specs.Tokens.{code_of}
use Rattle.asm_operands.specs.Operands.{lexeme_of}
use Rattle.asm_operands.specs.Meanings.{lexemes}
use Rattle.asm_operands.proofs.lexeme.lexemes.Given as goal

abbrev pub invariant-loop-token : goal.invariant-loop-token
invariant-loop-token l = lexemes l.lexemes.items ≡ map (lexeme_of (code_of l.fn.line)) (take l.token-index l.token-items)
