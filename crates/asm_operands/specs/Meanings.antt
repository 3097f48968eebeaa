-- What the types of the code stand for: texts that are lent stand for their bytes.
use Rattle.std.specs.Prelude.{List, [], map, Result, Ok, Err}
use Rattle.std.specs.Option.{option_map}
use Rattle.std.specs.Borrow.{Bor}
use Rattle.asm_operands.specs.declared.lexeme.Lexeme as written
use Rattle.asm_operands.specs.declared.lexeme.Stop as stop
use Rattle.asm_operands.specs.declared.lexeme.Stop.TheVariants as why
use Rattle.asm_operands.specs.declared.expr.Expr as kept
use Rattle.asm_operands.specs.declared.expr.Imm as given
use Rattle.asm_operands.specs.Operands.{Lexeme, Took, Taken, Stuck, Expr, Imm}

abbrev pub lexeme : written.Lexeme → Lexeme
lexeme x = record { kind = x.kind; text = x.text.now; column = x.column }

abbrev pub lexemes : List written.Lexeme → List Lexeme
lexemes xs = map lexeme xs

abbrev pub expr : kept.Expr → Expr
expr e = record { name = option_map (λ name. name.now) e.name; number = e.number; column = e.column }

abbrev pub imm : given.Imm → Imm
imm i = record { part = i.part; expr = expr i.expr; column = i.column }

-- what was taken, as the definitions say it
abbrev pub took : {A B : Type 0} → (A → B) → Result (A × Bor (List written.Lexeme)) (Bor (List written.Lexeme)) → Took B
took f (Ok found) = Taken (f found.0) (lexemes found.1.now)
took f (Err left) = Stuck (lexemes left.now)

-- what all the tokens came to, as the definitions say it
abbrev pub whole : {A B : Type 0} → (A → B) → Result A (Bor (List written.Lexeme)) → Took B
whole f (Ok found) = Taken (f found) []
whole f (Err left) = Stuck (lexemes left.now)

-- a claim on the tokens that were left, where memory didn't run out
abbrev pub StopsAt : stop.Stop → (List Lexeme → Type 0) → Type 0
StopsAt (why.Misfit left) claim = claim (lexemes left.now)
StopsAt why.NoMemory claim = Unit {0}
