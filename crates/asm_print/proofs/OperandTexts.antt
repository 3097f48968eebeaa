-- Operands read back from their texts.
use Rattle.std.proofs.Common.{◌≡◌, ℕ, suc, ◌+◌, ◌^◌, ◌<◌, false, true, List, ◌∷◌, ◌++◌, length, Some, None, refl, ap, arith}
use Rattle.std.specs.Prelude.{ℤ, pos, negsuc, decimal}
use Rattle.std.specs.Fmt.{signed_decimal}
use Rattle.std.proofs.lemmas.Int.{ints}
use borrow.Author.Tests.{tests}
use Rattle.asm_operands.specs.declared.token.TokenKind.TheVariants.{Word, Number, Comma, Open, Close, Minus}
use Rattle.asm_operands.specs.declared.expr.Part.TheVariants.{Whole}
use Rattle.asm_operands.specs.Tokens.{is_name_byte, kind_of}
use Rattle.asm_operands.specs.Numbers.{is_number}
use Rattle.asm_operands.specs.Operands.{Lexeme, Took, Taken, Expr, Imm, take_kind, take_literal, take_expr, take_imm, take_register, take_in_parentheses, take_memory, take_base, take_next}
use Rattle.asm_print.specs.Operands.{register_text}
use Rattle.asm_print.proofs.Spelling.{Part, Run, Mark, Gap, spelling, written, IsMark, AreParts, begins_run}
use Rattle.asm_print.proofs.Spelt.{decimal_run, decimal_spelt, register_spelt, register_run}

-- ---- marks

comma : IsMark Comma 44
unfolding kind_of is_name_byte
comma = record { begins = refl; other = refl }

open_mark : IsMark Open 40
unfolding kind_of is_name_byte
open_mark = record { begins = refl; other = refl }

close_mark : IsMark Close 41
unfolding kind_of is_name_byte
close_mark = record { begins = refl; other = refl }

minus_mark : IsMark Minus 45
unfolding kind_of is_name_byte
minus_mark = record { begins = refl; other = refl }

-- ---- numbers

-- a number, and what stands behind it
abbrev pub number_then : ℤ → List Part → List Part
number_then (pos n) parts = Run Number (decimal n) ∷ parts
number_then (negsuc n) parts = Mark Minus 45 ∷ Run Number (decimal (suc n)) ∷ parts

pub number_text : (z : ℤ) (parts : List Part) → spelling (number_then z parts) ≡ signed_decimal z ++ spelling parts
number_text (pos n) parts = refl
number_text (negsuc n) parts = refl

small : (n : ℕ) → is_number (pos n) ≡ true → n < 2 ^ 64
small n is = grind (arith, ints, tests)

small_below : (n : ℕ) → is_number (negsuc n) ≡ true → suc n < 2 ^ 64
small_below n is = grind (arith, ints, tests)

pub number_parts : (z : ℤ) (parts : List Part) → is_number z ≡ true → begins_run parts ≡ false → AreParts parts → AreParts (number_then z parts)
number_parts (pos n) parts is apart fit = (decimal_run n (small n is), apart, fit)
number_parts (negsuc n) parts is apart fit = (minus_mark, (decimal_run (suc n) (small_below n is), apart, fit))

-- the column behind a number
pub behind : ℕ → ℤ → ℕ
behind column z = column + length (signed_decimal z)

literal : (z : ℤ) (column : ℕ) (parts : List Part) → is_number z ≡ true →
    take_literal (written column (number_then z parts)) ≡ Taken (record { value = Some z; column = column }) (written (behind column z) parts)
unfolding take_literal take_kind behind
literal (pos n) column parts is = rw (decimal_spelt n (small n is)) (rw is refl)
literal (negsuc n) column parts is =
    rw (decimal_spelt (suc n) (small_below n is)) (rw is (ap (λ k. Taken (record { value = Some (negsuc n); column = column }) (written k parts)) (omega arith)))

abbrev pub number_expr : ℕ → ℤ → Expr
number_expr column z = record { name = None; number = Some z; column = column }

abbrev pub number_imm : ℕ → ℤ → Imm
number_imm column z = record { part = Whole; expr = number_expr column z; column = column }

pub expr : (z : ℤ) (column : ℕ) (parts : List Part) → is_number z ≡ true → take_expr (written column (number_then z parts)) ≡ Taken (number_expr column z) (written (behind column z) parts)
unfolding take_expr
expr (pos n) column parts is = rw (literal (pos n) column parts is) refl
expr (negsuc n) column parts is = rw (literal (negsuc n) column parts is) refl

pub imm : (z : ℤ) (column : ℕ) (parts : List Part) → is_number z ≡ true → take_imm (written column (number_then z parts)) ≡ Taken (number_imm column z) (written (behind column z) parts)
unfolding take_imm
imm (pos n) column parts is = rw (expr (pos n) column parts is) refl
imm (negsuc n) column parts is = rw (expr (negsuc n) column parts is) refl

-- ---- registers and addresses

-- a register, and what stands behind it
abbrev pub register_then : ℕ → List Part → List Part
register_then r parts = Run Word (register_text r) ∷ parts

-- the column behind a register
pub behind_register : ℕ → ℕ → ℕ
behind_register column r = column + length (register_text r)

pub register : (r column : ℕ) (parts : List Part) → r < 32 → take_register (written column (register_then r parts)) ≡ Taken r (written (behind_register column r) parts)
unfolding take_register behind_register
register r column parts low = rw (register_spelt r low) refl

-- a register in parentheses
abbrev pub direct_then : ℕ → List Part → List Part
direct_then r parts = Mark Open 40 ∷ register_then r (Mark Close 41 ∷ parts)

direct : (r column : ℕ) (parts : List Part) → r < 32 → take_in_parentheses (written column (direct_then r parts)) ≡ Taken r (written (behind_register (column + 1) r + 1) parts)
unfolding take_in_parentheses take_kind
direct r column parts low = rw (register r (column + 1) (Mark Close 41 ∷ parts) low) refl

pub base : (r column : ℕ) (parts : List Part) → r < 32 → take_base (written column (direct_then r parts)) ≡ Taken r (written (behind_register (column + 1) r + 1) parts)
unfolding take_base
base r column parts low = direct r column parts low

pub memory : (z : ℤ) (r column : ℕ) (parts : List Part) → is_number z ≡ true → r < 32 →
    take_memory (written column (number_then z (direct_then r parts))) ≡ Taken (number_imm column z, r) (written (behind_register (behind column z + 1) r + 1) parts)
unfolding take_memory
memory (pos n) r column parts is low = rw (imm (pos n) column (direct_then r parts) is) (rw (direct r (behind column (pos n)) parts low) refl)
memory (negsuc n) r column parts is low = rw (imm (negsuc n) column (direct_then r parts) is) (rw (direct r (behind column (negsuc n)) parts low) refl)

-- ---- operands one after the other

-- a comma and a space
abbrev pub comma_then : List Part → List Part
comma_then parts = Mark Comma 44 ∷ Gap ∷ parts

pub next : {A : Type 0} (takes : List Lexeme → Took A) (column : ℕ) (parts : List Part) → take_next takes (written column (comma_then parts)) ≡ takes (written (column + 1 + 1) parts)
unfolding take_kind
next takes column parts = refl

pub register_parts : (r : ℕ) (parts : List Part) → r < 32 → begins_run parts ≡ false → AreParts parts → AreParts (register_then r parts)
register_parts r parts low apart fit = (register_run r low, apart, fit)

pub direct_parts : (r : ℕ) (parts : List Part) → r < 32 → AreParts parts → AreParts (direct_then r parts)
direct_parts r parts low fit = (open_mark, register_parts r (Mark Close 41 ∷ parts) low refl (close_mark, fit))

pub comma_parts : (parts : List Part) → AreParts parts → AreParts (comma_then parts)
comma_parts parts fit = (comma, fit)
