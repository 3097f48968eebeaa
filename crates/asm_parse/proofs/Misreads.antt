-- Of the causes that show when a line is read by itself at most one is there.
use Rattle.std.proofs.Common.{◌≡◌, ℕ, List, [], ◌∷◌, ◌+◌, length, Option, Some, None, option_map, refl, arith}
use Rattle.std.specs.List.{position}
use Rattle.asm_operands.specs.declared.fault.TokenFault.TheVariants as token
use Rattle.asm_operands.specs.Tokens.{code_of, is_strange}
use Rattle.asm_parse.specs.Readings.{done_by}
use Rattle.asm_parse.specs.declared.fault.AsmCause.TheVariants as cause
use Rattle.asm_parse.specs.Assembly.{Statement, Asked, NothingAsked, NoWord, OtherSpace, Asks, Misfit, Reads, first_of, word_fault, operand_fault, number_fault, reading_fault, statement_of}

pub word_first : (end column : ℕ) (asks : Asked) → word_fault asks ≡ Some (cause.Word column) → first_of (word_fault asks ∷ operand_fault end asks ∷ number_fault asks ∷ []) ≡ Some (cause.Word column)
unfolding first_of
word_first end column NothingAsked is = grind arith
word_first end column (NoWord at) is = grind arith
word_first end column (OtherSpace at) is = grind arith
word_first end column (Asks (Misfit xs)) is = grind arith
word_first end column (Asks (Reads wrong does)) is = grind arith

pub operand_first : (end column : ℕ) (asks : Asked) → operand_fault end asks ≡ Some (cause.Operand column) → first_of (word_fault asks ∷ operand_fault end asks ∷ number_fault asks ∷ []) ≡ Some (cause.Operand column)
unfolding first_of
operand_first end column NothingAsked is = grind arith
operand_first end column (NoWord at) is = grind arith
operand_first end column (OtherSpace at) is = grind arith
operand_first end column (Asks (Misfit xs)) is = grind arith
operand_first end column (Asks (Reads wrong does)) is = grind arith

pub number_first : (end column : ℕ) (asks : Asked) → number_fault asks ≡ Some (cause.Number column) → first_of (word_fault asks ∷ operand_fault end asks ∷ number_fault asks ∷ []) ≡ Some (cause.Number column)
unfolding first_of
number_first end column NothingAsked is = grind arith
number_first end column (NoWord at) is = grind arith
number_first end column (OtherSpace at) is = grind arith
number_first end column (Asks (Misfit xs)) is = grind arith
number_first end column (Asks (Reads None does)) is = grind arith
number_first end column (Asks (Reads (Some at) does)) is = grind arith

strange_first : (asks : Asked) (end : ℕ) (found : Option ℕ) (column : ℕ) → option_map (λ place. token.Character (place + 1)) found ≡ Some (token.Character column) → first_of (option_map (λ place. cause.Character (place + 1)) found ∷ word_fault asks ∷ operand_fault end asks ∷ number_fault asks ∷ []) ≡ Some (cause.Character column)
unfolding first_of
strange_first asks end None column is = grind arith
strange_first asks end (Some place) column is = grind arith

-- a strange byte comes before all other causes
pub strange_line : (line : List ℕ) (asks : Asked) (column : ℕ) → option_map (λ place. token.Character (place + 1)) (position is_strange (code_of line)) ≡ Some (token.Character column) → reading_fault line asks ≡ Some (cause.Character column)
unfolding first_of reading_fault
strange_line line asks column is = strange_first asks (length line + 1) (position is_strange (code_of line)) column is

-- without one the others count
pub plain_line : (line : List ℕ) (asks : Asked) → position is_strange (code_of line) ≡ None → reading_fault line asks ≡ first_of (word_fault asks ∷ operand_fault (length line + 1) asks ∷ number_fault asks ∷ [])
unfolding first_of reading_fault
plain_line line asks is = rw is refl

-- what is done has no fault
pub done_line : (end : ℕ) (asks : Asked) (does : Statement) → done_by asks ≡ Some does → (first_of (word_fault asks ∷ operand_fault end asks ∷ number_fault asks ∷ []) ≡ None) × (statement_of asks ≡ does)
unfolding first_of
done_line end NothingAsked does is = grind arith
done_line end (NoWord at) does is = grind arith
done_line end (OtherSpace at) does is = grind arith
done_line end (Asks (Misfit xs)) does is = grind arith
done_line end (Asks (Reads None done)) does is = grind arith
done_line end (Asks (Reads (Some at) done)) does is = grind arith
