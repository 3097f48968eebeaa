-- What a number that is known at once leaves to be checked.
use Rattle.std.specs.Prelude.{◌≡◌, ℕ, ℤ, Bool, true, if◌then◌else◌, Option, Some, None, Result, Ok, Err, MatchResult}
use Rattle.asm_operands.specs.declared.expr.Expr as code_expr
use Rattle.asm_operands.specs.declared.expr.Literal.{Literal}
use Rattle.asm_parse.specs.Assembly.{wrong_number}
use Rattle.asm_operands.specs.Meanings.{expr}

-- the column that is wrong: of a misspelt number, or the one that is given for a number that doesn't fit
abbrev pub wrong_by : Result (Option ℤ) ℕ → ℕ → (ℤ → Bool) → Option ℕ
wrong_by (Err column) at fits = Some column
wrong_by (Ok None) at fits = None
wrong_by (Ok (Some n)) at fits = if fits n then None else Some at

-- an expression's wrong column, where its number would be blamed at another one
abbrev pub wrong_expr : code_expr.Expr → ℕ → (ℤ → Bool) → Option ℕ
wrong_expr e at fits = wrong_number (expr e).name (expr e).number (expr e).column at fits

-- a number that stands alone fits, or this column is wrong
abbrev pub IsChecked : {A : Type 0} → (A → ℤ) → Literal → (ℤ → Bool) → Result A ℕ → Type 0
IsChecked value n fits checked =
    MatchResult checked (λ a. (n.value ≡ Some (value a)) × (fits (value a) ≡ true))
    (λ column. wrong_number None n.value n.column n.column fits ≡ Some column)
