-- An expression takes a token at least.
use Rattle.std.proofs.Common.{ℕ, ◌+◌, ◌<◌, ◌≤◌, Bool, false, true, List, [], ◌∷◌, length, Option, Some, None, arith}
use Rattle.std.specs.Prelude.{if◌then◌else◌}
use Rattle.asm_operands.specs.declared.token.TokenKind.{TokenKind}
use Rattle.asm_operands.specs.declared.token.TokenKind.TheVariants.{Word, Number, Comma, Plus, Minus}
use Rattle.asm_operands.specs.declared.expr.Literal.{Literal}
use Rattle.asm_operands.specs.Operands.{Lexeme, Took, Taken, Stuck, took_if, text_if, then_take, first_is, has_kind, take_kind, take_number, take_literal, take_offset, take_expr, take_next}

-- fewer tokens than so many are left
abbrev pub LeavesBelow : {A : Type 0} → ℕ → Took A → Type 0
LeavesBelow n (Taken a rest) = length rest < n
LeavesBelow n (Stuck rest) = Unit {0}

below_more : {A : Type 0} (m n : ℕ) (took : Took A) → LeavesBelow m took → m ≤ n → LeavesBelow n took
below_more m n (Taken a rest) below le = omega arith
below_more m n (Stuck rest) below le = tt

below_then : {A B : Type 0} (n : ℕ) (took : Took A) (next : A → List Lexeme → Took B) → LeavesBelow n took → ((a : A) (rest : List Lexeme) → length rest < n → LeavesBelow n (next a rest)) → LeavesBelow n (then_take took next)
below_then n (Taken a rest) next below each = each a rest below
below_then n (Stuck rest) next below each = tt

below_if : {A : Type 0} (n : ℕ) (test : Bool) (took other : Took A) → LeavesBelow n took → LeavesBelow n other → LeavesBelow n (if test then took else other)
below_if n true took other below otherwise = below
below_if n false took other below otherwise = otherwise

below_one : {A : Type 0} (found : Option A) (x : Lexeme) (xs : List Lexeme) → LeavesBelow (length xs + 1) (took_if found x xs)
below_one (Some a) x xs = omega arith
below_one None x xs = tt

below_kind : (kind : TokenKind) (xs : List Lexeme) → LeavesBelow (length xs) (take_kind kind xs)
unfolding take_kind
below_kind kind [] = tt
below_kind kind (x ∷ xs) = below_more (length xs + 1) (length (x ∷ xs)) (took_if (text_if kind x) x xs) (below_one (text_if kind x) x xs) (omega arith)

below_number : (negative : Bool) (column : Option ℕ) (xs : List Lexeme) → LeavesBelow (length xs) (take_number negative column xs)
below_number negative None xs = below_then (length xs) (take_kind Number xs) _ (below_kind Number xs) (λ x rest below. below)
below_number negative (Some column) xs = below_then (length xs) (take_kind Number xs) _ (below_kind Number xs) (λ x rest below. below)

below_literal : (xs : List Lexeme) → LeavesBelow (length xs) (take_literal xs)
unfolding take_literal
below_literal xs =
    below_if (length xs) (first_is (has_kind Minus) xs) _ _
    (below_then (length xs) (take_kind Minus xs) _ (below_kind Minus xs) (λ x rest below. below_more (length rest) (length xs) (take_number true (Some x.column) rest) (below_number true (Some x.column) rest) (omega arith)))
    (below_number false None xs)

-- a sign and the literal behind it
below_behind : {A : Type 0} (kind : TokenKind) (xs : List Lexeme) (next : Literal → List Lexeme → Took A) → ((n : Literal) (rest : List Lexeme) → LeavesBelow (length rest + 1) (next n rest))
    → LeavesBelow (length xs + 1) (then_take (take_kind kind xs) (λ _ rest. then_take (take_literal rest) next))
below_behind kind xs next each =
    below_then (length xs + 1) (take_kind kind xs) (λ _ rest. then_take (take_literal rest) next) (below_more (length xs) (length xs + 1) (take_kind kind xs) (below_kind kind xs) (omega arith))
    (λ _ rest below. below_then (length xs + 1) (take_literal rest) next (below_more (length rest) (length xs + 1) (take_literal rest) (below_literal rest) (omega arith))
    (λ n rest below. below_more (length rest + 1) (length xs + 1) (next n rest) (each n rest) (omega arith)))

below_offset : (name : Lexeme) (xs : List Lexeme) → LeavesBelow (length xs + 1) (take_offset name xs)
below_offset name xs =
    below_if (length xs + 1) (first_is (has_kind Plus) xs) _ _ (below_behind Plus xs _ (λ n rest. omega arith))
    (below_if (length xs + 1) (first_is (has_kind Minus) xs) _ _ (below_behind Minus xs _ (λ n rest. omega arith)) (omega arith))

pub below_expr : (xs : List Lexeme) → LeavesBelow (length xs) (take_expr xs)
unfolding take_expr
below_expr xs =
    below_if (length xs) (first_is (has_kind Word) xs) _ _
    (below_then (length xs) (take_kind Word xs) _ (below_kind Word xs) (λ name rest below. below_more (length rest + 1) (length xs) (take_offset name rest) (below_offset name rest) (omega arith)))
    (below_then (length xs) (take_literal xs) _ (below_literal xs) (λ n rest below. below))

pub below_next : (xs : List Lexeme) → LeavesBelow (length xs) (take_next take_expr xs)
below_next xs = below_then (length xs) (take_kind Comma xs) _ (below_kind Comma xs) (λ _ rest below. below_more (length rest) (length xs) (take_expr rest) (below_expr rest) (omega arith))
