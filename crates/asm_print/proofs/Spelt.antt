-- Numbers and registers read back from their texts.
use Rattle.std.proofs.Common.{◌≡◌, Bool, Option, ℕ, zero, suc, ◌+◌, ◌*◌, ◌/◌, ◌%◌, ◌^◌, ◌<◌, false, true, List, [], ◌∷◌, ◌++◌, length, take, get_or, codes, Some, None, inl, inr, refl, ap, subst, ◌∙◌, arith, length-append}
use Rattle.std.specs.Prelude.{decimal, ◌==◌, ◌&&◌}
use Rattle.std.specs.List.{list_all}
use Rattle.std.specs.Str.{bytes_eq}
use Rattle.std.specs.Char.{is_ascii_digit}
use Rattle.std.specs.Fmt.{digits}
use Rattle.std.proofs.lemmas.Fmt.{decimal_by_steps}
use Rattle.std.proofs.lemmas.Bool.{cases_lt}
use Rattle.std.proofs.Math.Arith.{mod-mul}
use borrow.Author.Tests.{tests}
use Rattle.pmsi_model.specs.Lines.{hex_digits}
use Rattle.pmsi_model.specs.Lines.{digit_of as hex_digit}
use Rattle.asm_operands.specs.declared.token.TokenKind.TheVariants.{Word, Number}
use Rattle.asm_operands.specs.Tokens.{is_name_byte, kind_of}
use Rattle.asm_operands.specs.Numbers.{digit_of, with_digit, digits_behind, digits_number, number_spelt, registers, register_named}
use Rattle.asm_print.specs.Operands.{register_text}
use Rattle.asm_print.proofs.Spelling.{IsRun}

behind_last : (base : ℕ) (before : Option ℕ) (bytes : List ℕ) (b : ℕ) → digits_behind base before (bytes ++ b ∷ []) ≡ with_digit base (digits_behind base before bytes) (digit_of b)
unfolding digits_behind
behind_last base before [] b = refl
behind_last base before (c ∷ bytes) b = behind_last base (with_digit base before (digit_of c)) bytes b

all_last : (bytes : List ℕ) (b : ℕ) → list_all is_ascii_digit bytes ≡ true → is_ascii_digit b ≡ true → list_all is_ascii_digit (bytes ++ b ∷ []) ≡ true
all_last [] b all last = grind (arith, tests, last)
all_last (c ∷ bytes) b all last = grind (arith, tests, all_last bytes b, last)

-- ---- decimal digits

record IsDecimal (n : ℕ) (bytes : List ℕ) : Type 0 where
  some : 0 < length bytes
  digits : list_all is_ascii_digit bytes ≡ true
  value : digits_behind 10 (Some 0) bytes ≡ Some n

digit_is : (n : ℕ) → n < 10 → digit_of (48 + n) ≡ Some n
digit_is n low = grind (arith, tests)

is_digit : (n : ℕ) → n < 10 → is_ascii_digit (48 + n) ≡ true
is_digit n low = grind (arith, tests)

one_digit : (n : ℕ) → n < 10 → digits_behind 10 (Some 0) ((48 + n) ∷ []) ≡ Some n
unfolding digits_behind
one_digit n low = rw (digit_is n low) (grind (arith, tests))

next_digit : (n d : ℕ) → d < 10 → with_digit 10 (Some n) (Some d) ≡ Some (n * 10 + d)
next_digit n d low = grind (arith, tests)

is_decimal : (n : ℕ) → n < 2 ^ 64 → IsDecimal n (decimal n)
is_decimal n low = decimal_by_steps IsDecimal
    (λ k small. record { some = omega arith; digits = grind (arith, tests, is_digit k small); value = one_digit k small })
    (λ k ds big before. record {
      some = omega (arith, length-append ds ((48 + k % 10) ∷ []));
      digits = all_last ds (48 + k % 10) before.digits (is_digit (k % 10) (omega arith));
      value = behind_last 10 (Some 0) ds (48 + k % 10)
          ∙ ap (λ o. with_digit 10 o (digit_of (48 + k % 10))) before.value
          ∙ ap (with_digit 10 (Some (k / 10))) (digit_is (k % 10) (omega arith))
          ∙ next_digit (k / 10) (k % 10) (omega arith)
          ∙ ap Some (omega arith);
    })
    n low

digit_name : (b : ℕ) → is_ascii_digit b ≡ true → is_name_byte b ≡ true
unfolding is_name_byte
digit_name b digit = grind (arith, tests)

digit_kind : (b : ℕ) → is_ascii_digit b ≡ true → kind_of b ≡ Some Number
unfolding kind_of
digit_kind b digit = rw digit refl

digit_names : (bytes : List ℕ) → list_all is_ascii_digit bytes ≡ true → list_all is_name_byte bytes ≡ true
digit_names [] digits = refl
digit_names (b ∷ bytes) digits = grind (arith, tests, digit_names bytes, digit_name b)

digit_first : (bytes : List ℕ) → 0 < length bytes → list_all is_ascii_digit bytes ≡ true → kind_of (get_or bytes 0 0) ≡ Some Number
digit_first [] some digits = absurd (omega arith)
digit_first (b ∷ bytes) some digits = digit_kind b (grind (arith, tests))

no_prefix : (bytes : List ℕ) → list_all is_ascii_digit bytes ≡ true → bytes_eq (take 2 bytes) (codes "0x") ≡ false
no_prefix [] digits = refl
no_prefix (b ∷ []) digits = grind (arith, tests)
no_prefix (b ∷ c ∷ bytes) digits = grind (arith, tests)

by_tens : (bytes : List ℕ) → 0 < length bytes → digits_number 10 bytes ≡ digits_behind 10 (Some 0) bytes
by_tens [] some = absurd (omega arith)
by_tens (b ∷ bytes) some = refl

pub decimal_run : (n : ℕ) → n < 2 ^ 64 → IsRun Number (decimal n)
decimal_run n low =
    let is : IsDecimal n (decimal n) = is_decimal n low in
    record { some = is.some; names = digit_names (decimal n) is.digits; first = digit_first (decimal n) is.some is.digits }

pub decimal_spelt : (n : ℕ) → n < 2 ^ 64 → number_spelt (decimal n) ≡ Some n
unfolding number_spelt
decimal_spelt n low =
    let is : IsDecimal n (decimal n) = is_decimal n low in
    rw (no_prefix (decimal n) is.digits) (by_tens (decimal n) is.some ∙ is.value)

-- ---- hexadecimal digits

hex_digit_is : (n : ℕ) → n < 16 → digit_of (hex_digit n) ≡ Some n
hex_digit_is n low = grind (arith, tests)

hex_digit_name : (n : ℕ) → n < 16 → is_name_byte (hex_digit n) ≡ true
unfolding is_name_byte
hex_digit_name n low = grind (arith, tests)

next_hex : (n d : ℕ) → d < 16 → with_digit 16 (Some n) (Some d) ≡ Some (n * 16 + d)
next_hex n d low = grind (arith, tests)

shifted : (a d p low whole : ℕ) → whole ≡ d * p + low → (a * 16 + d) * p + low ≡ a * (16 * p) + whole
shifted a d p low whole e = grind arith

sixteens : (count : ℕ) → 0 < 16 ^ count
sixteens zero = omega arith
sixteens (suc count) = omega (arith, sixteens count)

hex_behind : (count n a : ℕ) → digits_behind 16 (Some a) (hex_digits count n) ≡ Some (a * 16 ^ count + n % 16 ^ count)
unfolding digits_behind
hex_behind zero n a = ap Some (omega arith)
hex_behind (suc count) n a =
    let d : ℕ = n / 16 ^ count % 16 in
    let here : with_digit 16 (Some a) (digit_of (hex_digit d)) ≡ Some (a * 16 + d) = ap (with_digit 16 (Some a)) (hex_digit_is d (omega arith)) ∙ next_hex a d (omega arith) in
    let power : 16 * 16 ^ count ≡ 16 ^ suc count = omega arith in
    let whole : n % (16 * 16 ^ count) ≡ d * 16 ^ count + n % 16 ^ count = mod-mul n (omega arith) (sixteens count) in
    ap (λ o. digits_behind 16 o (hex_digits count n)) here ∙ hex_behind count n (a * 16 + d)
    ∙ ap Some (shifted a d (16 ^ count) (n % 16 ^ count) (n % (16 * 16 ^ count)) whole) ∙ ap (λ p. Some (a * p + n % p)) power

hex_names : (count n : ℕ) → list_all is_name_byte (hex_digits count n) ≡ true
hex_names zero n = refl
hex_names (suc count) n = grind (arith, tests, hex_names count n, hex_digit_name (n / 16 ^ count % 16) (omega arith))

-- `0x` and digits
pub hex_run : (count n : ℕ) → IsRun Number (codes "0x" ++ hex_digits count n)
unfolding is_name_byte kind_of
hex_run count n = record { some = omega arith; names = hex_names count n; first = refl }

pub hex_spelt : (count n : ℕ) → number_spelt (codes "0x" ++ hex_digits (suc count) n) ≡ Some (n % 16 ^ suc count)
unfolding number_spelt
hex_spelt count n = hex_behind (suc count) n 0 ∙ ap Some (omega arith)

-- ---- registers

is_some_of : ℕ → Option ℕ → Bool
is_some_of n None = false
is_some_of n (Some k) = k == n

some_of : (n : ℕ) (found : Option ℕ) → is_some_of n found ≡ true → found ≡ Some n
unfolding is_some_of
some_of n None is = absurd (cc)
some_of n (Some k) is = grind (arith, tests)

-- a test that passes below a number
passes : (ℕ → Bool) → ℕ → Bool
passes test zero = true
passes test (suc n) = test n && passes test n

passes_at : (test : ℕ → Bool) (n k : ℕ) → passes test n ≡ true → k < n → test k ≡ true
unfolding passes
passes_at test zero k all low = absurd (omega arith)
passes_at test (suc n) k all low = elim (cases_lt k n) [
  | inl before ↦ passes_at test n k (grind (arith, tests)) before
  | inr last ↦ let same : n ≡ k = omega arith in subst (λ i. test i ≡ true) same (grind (arith, tests))
]

register_reads : passes (λ r. is_some_of r (register_named (register_text r))) 32 ≡ true
unfolding passes is_some_of registers register_named digits
register_reads = refl

pub register_spelt : (r : ℕ) → r < 32 → register_named (register_text r) ≡ Some r
register_spelt r low = some_of r (register_named (register_text r)) (passes_at (λ i. is_some_of i (register_named (register_text i))) 32 r register_reads low)

pub register_run : (r : ℕ) → r < 32 → IsRun Word (register_text r)
unfolding is_name_byte kind_of
register_run r low =
    let run : IsRun Number (decimal r) = decimal_run r (omega arith) in
    record { some = omega arith; names = run.names; first = refl }
