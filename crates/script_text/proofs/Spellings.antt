-- Digits that are read one by one.
use Rattle.std.proofs.Common.{◌≡◌, ◌∙◌, ◌+◌, ◌*◌, ◌^◌, ◌<◌, ◌≤◌, ◌&&◌, inl, inr, ℕ, Bool, List, [], ◌∷◌, length, drop, get_or, true, false, Option, Some, None, refl, ap, arith}
use Rattle.std.specs.Prelude.{nat_lt, if◌then◌else◌}
use Rattle.std.proofs.Math.Nat.{le-mul_of_pos_right}
use Rattle.std.proofs.lemmas.Bool.Decides.{nat_tests}
use Rattle.std.proofs.lemmas.List.{drop_more, drop_all}
use Rattle.std.specs.Char.{digit_value, is_digit}
use Rattle.std.specs.List.{list_all}
use Rattle.std.specs.Str.Parse.{digits_value_after}
use Rattle.script_text.specs.Script.{spelt_in}
use Rattle.script_text.specs.Reads.{IsPast}

-- the number of 32 bits that some digits spell behind a number
abbrev pub spelt_after : ℕ → ℕ → List ℕ → Option ℕ
spelt_after base value rest =
    if list_all (λ byte. is_digit byte base) rest && nat_lt (digits_value_after base value rest) (2 ^ 32) then Some (digits_value_after base value rest) else None

pub begins : (base : ℕ) (digits : List ℕ) → 0 < length digits → spelt_in base digits ≡ spelt_after base 0 digits
unfolding spelt_in
begins base [] some = absurd (omega arith)
begins base (digit ∷ digits) some = refl

pub no_digits : (base : ℕ) (digits : List ℕ) → length digits ≡ 0 → spelt_in base digits ≡ None
unfolding spelt_in
no_digits base [] none = refl
no_digits base (digit ∷ digits) none = absurd (omega (arith, none))

grows : (base value : ℕ) (rest : List ℕ) → 1 ≤ base → value ≤ digits_value_after base value rest
grows base value [] some = omega arith
grows base value (digit ∷ rest) some =
    let more : value * base + digit_value digit ≤ digits_value_after base (value * base + digit_value digit) rest = grows base (value * base + digit_value digit) rest some in
    let product : value ≤ value * base = le-mul_of_pos_right value some in
    omega (arith, more, product)

pub further : (base value next : ℕ) (digits : List ℕ) (i : ℕ) → i < length digits → is_digit (get_or digits i 0) base ≡ true → next ≡ value * base + digit_value (get_or digits i 0)
    → spelt_after base value (drop i digits) ≡ spelt_after base next (drop (i + 1) digits)
further base value next digits i low is more = ap (spelt_after base value) (drop_more digits i 0 low) ∙ rw (is, more) refl

neither : (n : ℕ) (b : Bool) → (if b && false then Some n else None) ≡ None
neither n true = refl
neither n false = refl

too_great : (base value : ℕ) (rest : List ℕ) → 1 ≤ base → 2 ^ 32 ≤ value → spelt_after base value rest ≡ None
too_great base value rest some high =
    let no : nat_lt (digits_value_after base value rest) (2 ^ 32) ≡ false = grind (arith, nat_tests, grows base value rest some) in
    ap (λ b. if list_all (λ byte. is_digit byte base) rest && b then Some (digits_value_after base value rest) else None) no
    ∙ neither (digits_value_after base value rest) (list_all (λ byte. is_digit byte base) rest)

passed : (base value total : ℕ) (rest : List ℕ) (digit : Bool) → total ≡ digits_value_after base value rest → spelt_after base value rest ≡ None
    → (if (digit && list_all (λ byte. is_digit byte base) rest) && nat_lt total (2 ^ 32) then Some total else None) ≡ None
passed base value total rest true same none = rw same none
passed base value total rest false same none = refl

pub past : (base value : ℕ) (digits : List ℕ) (i : ℕ) → 1 ≤ base → i < length digits → IsPast value base (get_or digits i 0) → spelt_after base value (drop i digits) ≡ None
past base value digits i some low (inl other) = ap (spelt_after base value) (drop_more digits i 0 low) ∙ rw other refl
past base value digits i some low (inr high) =
    ap (spelt_after base value) (drop_more digits i 0 low)
    ∙ passed base (value * base + digit_value (get_or digits i 0)) _ (drop (i + 1) digits) (is_digit (get_or digits i 0) base) refl
    (too_great base (value * base + digit_value (get_or digits i 0)) (drop (i + 1) digits) some high)

pub ends : (base value : ℕ) (digits : List ℕ) (i : ℕ) → length digits ≤ i → value < 2 ^ 32 → spelt_after base value (drop i digits) ≡ Some value
ends base value digits i end small =
    let yes : nat_lt value (2 ^ 32) ≡ true = grind (arith, nat_tests) in
    ap (spelt_after base value) (drop_all i digits end) ∙ rw yes refl
