-- The number that digits spell is the one that the standard library reads.
use Rattle.std.proofs.Common.{◌≡◌, ℕ, ◌+◌, ◌*◌, ◌^◌, ◌≤◌, ◌≢◌, cond, nat_lt, List, [], ◌∷◌, get_or, Option, Some, None, IfSome, Result, Ok, Err, IfNone, inl, inr, refl, sym, ap, ◌∙◌, arith}
use Rattle.std.specs.Char.{digit_value}
use Rattle.std.specs.Result.{result_ok}
use Rattle.std.specs.Str.Parse.{AllDigits, IsNumeral, digits_value, digits_value_after, ParsesUnsigned}
use Rattle.std.proofs.lemmas.Bool.{cases_lt}
use Rattle.std.proofs.lemmas.Bool.Decides.{nat_tests}
use Rattle.std.proofs.lemmas.Str.Parse.{without_leading_plus_none}
use Rattle.asm_operands.specs.Numbers.{digit_of, with_digit, digits_behind, digits_number}

with_digit-value : (base n b : ℕ) → base ≤ 16 → with_digit base (Some n) (digit_of b) ≡ cond (nat_lt (digit_value b) base) (Some (n * base + digit_value b)) None
with_digit-value base n b small = grind (arith, nat_tests)

digits_behind-none : (base m : ℕ) (bs : List ℕ) → digits_behind base None bs ≡ Some m → ⊥
unfolding digits_behind
digits_behind-none base m [] e = cc
digits_behind-none base m (b ∷ bs) e = digits_behind-none base m bs e

digits_behind-value : (base n : ℕ) (bs : List ℕ) → base ≤ 16 → AllDigits base bs → digits_behind base (Some n) bs ≡ Some (digits_value_after base n bs)
unfolding digits_behind
digits_behind-value base n [] small all = refl
digits_behind-value base n (b ∷ bs) small all =
    let step = with_digit-value base n b small in
    grind (arith, nat_tests, digits_behind-value base (n * base + digit_value b) bs small all.1)

digits_behind-some : (base n m : ℕ) (bs : List ℕ) → base ≤ 16 → digits_behind base (Some n) bs ≡ Some m → AllDigits base bs × (digits_value_after base n bs ≡ m)
unfolding digits_behind
digits_behind-some base n m [] small e = (tt, cc)
digits_behind-some base n m (b ∷ bs) small e =
    let step = with_digit-value base n b small in
    let next = n * base + digit_value b in
    elim (cases_lt (digit_value b) base) [
      | inl lt ↦
          let is : with_digit base (Some n) (digit_of b) ≡ Some next = grind (arith, nat_tests) in
          let rest = digits_behind-some base next m bs small (sym (ap (λ (o : Option ℕ). digits_behind base o bs) is) ∙ e) in
          ((lt, rest.0), rest.1)
      | inr le ↦
          let is : with_digit base (Some n) (digit_of b) ≡ None = grind (arith, nat_tests) in
          absurd (digits_behind-none base m bs (sym (ap (λ (o : Option ℕ). digits_behind base o bs) is) ∙ e))
    ]

number-value : (base : ℕ) (bs : List ℕ) → base ≤ 16 → IsNumeral base bs → digits_number base bs ≡ Some (digits_value base bs)
number-value base [] small numeral = absurd (omega (arith, numeral.0))
number-value base (b ∷ bs) small numeral = digits_behind-value base 0 (b ∷ bs) small numeral.1

number-some : (base m : ℕ) (bs : List ℕ) → base ≤ 16 → digits_number base bs ≡ Some m → IsNumeral base bs × (digits_value base bs ≡ m)
number-some base m [] small e = absurd cc
number-some base m (b ∷ bs) small e = let all = digits_behind-some base 0 m (b ∷ bs) small e in ((omega arith, all.0), all.1)

at_some : {A : Type 0} (P : A → Type 0) (o : Option A) → ((m : A) → o ≡ Some m → P m) → IfSome o P
at_some P None each = tt
at_some P (Some m) each = each m refl

-- digits spell no number where a sign stands in front
pub digits_number-sign : (base : ℕ) (bs : List ℕ) → base ≤ 16 → get_or bs 0 0 ≡ 43 → IfSome (digits_number base bs) (λ n. 2 ^ 32 ≤ n)
digits_number-sign base [] small sign = tt
digits_number-sign base (b ∷ bs) small sign =
    at_some (λ n. 2 ^ 32 ≤ n) (digits_number base (b ∷ bs)) (λ m e.
    let all = (digits_behind-some base 0 m (b ∷ bs) small e).0.0 in
    absurd (grind (arith, nat_tests)))

-- and with none in front, what is read of them
pub digits_number-read : {E : Type 0} (base : ℕ) (bs : List ℕ) (r : Result ℕ E) → base ≤ 16 → get_or bs 0 0 ≢ 43 → ParsesUnsigned 32 base bs r → IfSome (result_ok r) (λ n. digits_number base bs ≡ Some n) × IfNone (result_ok r) (IfSome (digits_number base bs) (λ n. 2 ^ 32 ≤ n))
digits_number-read base bs (Ok n) small plain parsed =
    let read = rw (without_leading_plus_none bs plain) at parsed in
    (number-value base bs small read.0.0 ∙ ap (λ (m : ℕ). Some m) (sym read.1), tt)
digits_number-read base bs (Err e) small plain parsed =
    let unread = rw (without_leading_plus_none bs plain) at parsed in (
      tt,
      at_some (λ n. 2 ^ 32 ≤ n) (digits_number base bs) (λ m is.
          let some = number-some base m bs small is in
          elim (cases_lt m (2 ^ 32)) [ inl lt ↦ absurd (unread (some.0, omega arith)) | inr le ↦ le ]),
    )
