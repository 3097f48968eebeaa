use Rattle.std.proofs.Common.{refl, arith}
use Rattle.asm_operands.specs.Meanings.{lexeme}
use Rattle.asm_link.proofs.NameLaws.{defines_one, refuses_one}
use Rattle.asm_link.proofs.definitions.define.Goals as goal

pub returns-then-is_some-clause-twice : goal.returns-then-is_some-clause-twice
returns-then-is_some-clause-twice c _ = refuses_one c.args.names.now c.args.number (lexeme c.args.name.now) _ (grind (arith, c.get.ensures, c.is_some.ensures, c.if-is_some.true)) refl

pub returns-clause-ok : goal.returns-clause-ok
returns-clause-ok c = defines_one c.args.names.now c.define.new.self (lexeme c.args.name.now) c.args.value (grind (arith, c.get.ensures, c.is_some.ensures, c.if-is_some.false)) c.in_ok-define.ensures.this c.in_ok-define.ensures.others
