-- Numbers as they are spelled.
use Rattle.std.proofs.Common.{◌≡◌, ℕ, ◌^◌, ◌<◌, true, false, List, [], ◌∷◌, length, None, Result, Err, refl, subst, rules, arith}
use Rattle.std.specs.Char.{is_ascii_digit}
use Rattle.std.specs.List.{list_all}
use Rattle.std.specs.Prelude.{nat_le}
use Rattle.std.specs.Str.{IsUtf8}
use Rattle.std.specs.Str.Parse.{ParsesUnsigned, digits_value}
use Rattle.std.proofs.lemmas.Bool.Decides.{nat_tests}
use Rattle.std.proofs.lemmas.Fmt.{IsAscii-from_digits}
use Rattle.std.proofs.lemmas.Str.{IsUtf8-from_ascii}
use Rattle.std.proofs.lemmas.Str.Parse.{IsNumeralModel, numerals_by_value, parse_digits}
use Rattle.trace_text.specs.Reading.{is_numeral, number_in}

abbrev pub AreDigits : List ℕ → Type 0
AreDigits field = list_all is_ascii_digit field ≡ true

pub own : IsNumeralModel AreDigits (digits_value 10)
own = numerals_by_value AreDigits (search rules)

pub are_digits : (field : List ℕ) → is_numeral field ≡ true → AreDigits field
are_digits field is = grind arith

pub some_digit : (field : List ℕ) → is_numeral field ≡ true → 0 < length field
some_digit [] is = absurd cc
some_digit (digit ∷ digits) is = omega arith

-- digits are text
pub text_of_digits : (field : List ℕ) → is_numeral field ≡ true → IsUtf8 field
text_of_digits field is = IsUtf8-from_ascii field (IsAscii-from_digits field (own.to field (are_digits field is)))

pub not_text : (most : ℕ) (field : List ℕ) → is_numeral field ≡ true → (IsUtf8 field → ⊥) → None ≡ number_in most field
not_text most field is other = absurd (other (text_of_digits field is))

-- a number that doesn't fit 32 bits is past each limit that does
past : (most : ℕ) (field : List ℕ) → is_numeral field ≡ true → most < digits_value 10 field → None ≡ number_in most field
unfolding number_in
past most field is high = let no : nat_le (digits_value 10 field) most ≡ false = grind (arith, nat_tests) in rw (is, no) refl

pub too_great : {E : Type 0} (most : ℕ) (field text : List ℕ) (e : E) (r : Result ℕ E) → most < 2 ^ 32 → is_numeral field ≡ true → text ≡ field → r ≡ Err e → ParsesUnsigned 32 10 text r
    → None ≡ number_in most field
too_great most field text e r small is same err h =
    let digits = are_digits field is in
    let some = some_digit field is in
    let parses = parse_digits own 32 field (Err e) (subst (λ x. ParsesUnsigned 32 10 field x) err (subst (λ x. ParsesUnsigned 32 10 x r) same h)) digits in
    let high : digits_value 10 field < 2 ^ 32 → ⊥ = λ low. parses (some, low) in
    past most field is (omega arith)
