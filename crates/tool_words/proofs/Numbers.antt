-- Numbers of one to ten decimal digits.
use Rattle.std.proofs.Common.{◌≡◌, refl, ℕ, ◌<◌, ◌^◌, length, Bool, true, false, arith, rules}
use Rattle.std.specs.Prelude.{Some, None, Result, Err, ◌&&◌, nat_le, if◌then◌else◌}
use Rattle.std.specs.Char.{is_ascii_digit}
use Rattle.std.specs.List.{list_all}
use Rattle.std.specs.Str.Parse.{ParsesUnsigned, digits_value}
use Rattle.std.proofs.lemmas.Str.Parse.{IsNumeralModel, numerals_by_value, parse_digits}
use Rattle.std.proofs.lemmas.Result.{OkIff-at_err}
use Rattle.clap.specs.Words.{Text}
use Rattle.tool_words.specs.Meaning.{is_number, number_of}

own : IsNumeralModel (λ ds. list_all is_ascii_digit ds ≡ true) (digits_value 10)
own = numerals_by_value _ (search rules)

-- a number that is too large for 32 bits is past each range
pub too_large : {E : Type 0} (least most : ℕ) (text : Text) (r : Result ℕ E) (error : E) → most < 2 ^ 32 → ParsesUnsigned 32 10 text r → is_number text ≡ true → r ≡ Err error
    → number_of least most text ≡ None
too_large least most text r error small parses is failed =
    let digits : list_all is_ascii_digit text ≡ true = grind (arith, is) in
    let some : 0 < length text = grind (arith, is) in
    let past : digits_value 10 text < 2 ^ 32 → ⊥ = λ low. OkIff-at_err r _ _ error (parse_digits own 32 text r parses digits) failed (some, low) in
    let over : nat_le (digits_value 10 text) most ≡ false = grind (arith, small, past) in
    rw (is, over) (none (nat_le least (digits_value 10 text)))
  where
    none : (low : Bool) → (if low && false then Some (digits_value 10 text) else None) ≡ None
    none true = refl
    none false = refl
