use Rattle.std.proofs.Common.{◌≡◌, ◌∙◌, ◌<◌, ◌≤◌, ◌+◌, ◌*◌, ◌^◌, ◌&&◌, ℕ, List, arith, rules, true, false, ap, ap₂, sym, refl, length, get_or, take, add-one, Some, None, Option}
use Rattle.std.proofs.Math.Nat.{pow-succ', pow-le-pow_right}
use Rattle.std.proofs.lemmas.Int.Digits.{digits_value_more}
use Rattle.std.proofs.lemmas.List.{take_all}
use Rattle.std.proofs.lemmas.List.Folds.{list_all_more, list_all_at}
use Rattle.std.specs.Char.{digit_value, is_digit}
use Rattle.std.specs.List.{list_all}
use Rattle.std.specs.Str.Parse.{digits_value}
use Rattle.job_text.specs.Sayings.{digits_in}
use Rattle.job_text.proofs.numerals.digits_in.Goals as goal

below_limit : (value index : ℕ) → value < 16 ^ index → index ≤ 10 → value < 2 ^ 40
below_limit value index small few = let most : 16 ^ index ≤ 16 ^ 10 = pow-le-pow_right (omega arith) few in omega arith

value_more : (base index value next : ℕ) (digits : List ℕ) → index < length digits → value ≡ digits_value base (take index digits)
    → next ≡ value * base + digit_value (get_or digits index 0) → next ≡ digits_value base (take (index + 1) digits)
value_more base index value next digits low is more = more ∙ ap (λ (n : ℕ). n * base + digit_value (get_or digits index 0)) is ∙ sym (digits_value_more base digits index low)

small_more : (base index value digit next : ℕ) → base ≤ 16 → value < 16 ^ index → digit < base → next ≡ value * base + digit → next < 16 ^ (index + 1)
small_more base index value digit next few small below is =
    let more : 16 ^ (index + 1) ≡ 16 * 16 ^ index = rw add-one (pow-succ' 16 index) in
    grind (arith, more)

digit_below : (base digit : ℕ) → is_digit digit base ≡ true → digit_value digit < base
digit_below base digit is = grind arith

not_all : (base index : ℕ) (digits : List ℕ) (found : Option ℕ) → index < length digits → is_digit (get_or digits index 0) base ≡ false → found ≡ None → found ≡ digits_in base digits
unfolding digits_in
not_all base index digits found low other none = rw (none, list_all_at (λ byte. is_digit byte base) digits index 0 low other) refl

all_digits : (base index value : ℕ) (digits : List ℕ) → length digits ≤ index → value ≡ digits_value base (take index digits) → list_all (λ byte. is_digit byte base) (take index digits) ≡ true → Some value ≡ digits_in base digits
unfolding digits_in
all_digits base index value digits end is all =
    let whole : take index digits ≡ digits = take_all index digits end in
    let passes : list_all (λ byte. is_digit byte base) digits ≡ true = ap (list_all (λ byte. is_digit byte base)) (sym whole) ∙ all in
    rw passes (ap Some (is ∙ ap (digits_value base) whole))

pub with_digit-requires-clause-value : goal.with_digit-requires-clause-value
with_digit-requires-clause-value c = below_limit c.loop-byte.value c.loop-byte.byte-index c.loop-byte.invariant.small (omega arith)

pub loop-byte-preserved : goal.loop-byte-preserved
loop-byte-preserved c = record {
  value = value_more c.args.base c.loop-byte.byte-index c.loop-byte.value c.in_ok-value.value c.args.digits.now c.loop-byte-test.true c.loop-byte.invariant.value c.in_ok-value.ensures.digit.1;
  digits = list_all_more (λ byte. is_digit byte c.args.base) c.args.digits.now c.loop-byte.byte-index 0 c.loop-byte-test.true ∙ ap₂ (λ a b. a && b) c.loop-byte.invariant.digits c.in_ok-value.ensures.digit.0;
  small = small_more c.args.base c.loop-byte.byte-index c.loop-byte.value (digit_value (get_or c.args.digits.now c.loop-byte.byte-index 0)) c.in_ok-value.value c.requires.base.1 c.loop-byte.invariant.small
      (digit_below c.args.base (get_or c.args.digits.now c.loop-byte.byte-index 0) c.in_ok-value.ensures.digit.0) c.in_ok-value.ensures.digit.1;
}

pub returns-in_err-value-clause-value : goal.returns-in_err-value-clause-value
returns-in_err-value-clause-value c = not_all c.args.base c.loop-byte.byte-index c.args.digits.now c.from_residual.result c.loop-byte-test.true c.in_err-value.ensures.none (search rules)

pub returns-clause-value : goal.returns-clause-value
returns-clause-value c = all_digits c.args.base c.loop-byte.byte-index c.loop-byte.value c.args.digits.now (omega arith) c.loop-byte.invariant.value c.loop-byte.invariant.digits
