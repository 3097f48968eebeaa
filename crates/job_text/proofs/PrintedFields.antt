-- Numbers and words are read back from their printed digits.
use Rattle.std.proofs.Common.{◌≡◌, ◌≢◌, ℕ, zero, suc, ◌+◌, ◌*◌, ◌/◌, ◌%◌, ◌^◌, ◌<◌, ◌≤◌, true, false, List, [], ◌∷◌, length, Some, IsUtf8, refl, ap, ◌∙◌, arith}
use Rattle.std.specs.Prelude.{Bool, decimal, nat_lt, ◌&&◌}
use Rattle.std.specs.Char.{digit_value, is_digit}
use Rattle.std.specs.List.{All, list_all}
use Rattle.std.specs.Str.Parse.{AllDigits, digits_value, digits_value_after}
use Rattle.std.proofs.lemmas.Bool.Decides.{nat_tests}
use Rattle.std.proofs.lemmas.Fmt.{decimal_is_IsNumeral, length-decimal-le}
use Rattle.std.proofs.lemmas.List.Elements.{All-nil, All-cons}
use Rattle.std.proofs.lemmas.Str.{IsUtf8-from_ascii, IsUtf8-from_is_utf8}
use Rattle.std.proofs.lemmas.Str.Ascii.{IsAscii-from_all}
use Rattle.std.proofs.Math.Arith.{mod-mul}
use Rattle.pmsi_model.specs.Lines.{digit_of, hex_digits}
use Rattle.job_text.specs.Cutting.{is_blank, is_hash}
use Rattle.job_text.specs.Plans.{IsName}
use Rattle.job_text.specs.Sayings.{digits_in, number_in, word_in}

-- ---- fields

abbrev pub IsFieldByte : ℕ → Type 0
IsFieldByte byte = (is_blank byte ≡ false) × (is_hash byte ≡ false) × (byte ≢ 10) × (byte ≢ 13)

-- text that is one field of a line
pub record IsField (field : List ℕ) : Type 0 where
  pub some : 0 < length field
  pub plain : All IsFieldByte field
  pub text : IsUtf8 field

-- ---- digits of a base up to 16

digit_range : (byte : ℕ) → digit_value byte < 16 → (48 ≤ byte) × (byte < 103)
digit_range byte low = (grind arith, grind arith)

plain_byte : (byte : ℕ) → 48 ≤ byte → IsFieldByte byte
plain_byte byte from = (grind (arith, nat_tests), grind (arith, nat_tests), λ e. absurd (omega arith), λ e. absurd (omega arith))

digits_plain : (base : ℕ) (digits : List ℕ) → base ≤ 16 → AllDigits base digits → All IsFieldByte digits
digits_plain base [] high are = All-nil IsFieldByte
digits_plain base (byte ∷ digits) high are = All-cons IsFieldByte byte digits (plain_byte byte (digit_range byte (omega (arith, are.0))).0) (digits_plain base digits high are.1)

digits_ascii : (base : ℕ) (digits : List ℕ) → base ≤ 16 → AllDigits base digits → All (λ byte. byte < 128) digits
digits_ascii base [] high are = All-nil (λ byte. byte < 128)
digits_ascii base (byte ∷ digits) high are =
    let low : byte < 103 = (digit_range byte (omega (arith, are.0))).1 in
    All-cons (λ byte. byte < 128) byte digits (omega arith) (digits_ascii base digits high are.1)

digits_pass : (base : ℕ) (digits : List ℕ) → AllDigits base digits → list_all (λ byte. is_digit byte base) digits ≡ true
digits_pass base [] are = refl
digits_pass base (byte ∷ digits) are = grind (arith, nat_tests, are.0, digits_pass base digits are.1)

digits_field : (base : ℕ) (digits : List ℕ) → base ≤ 16 → 0 < length digits → AllDigits base digits → IsField digits
digits_field base digits high some are = record {
  some = some;
  plain = digits_plain base digits high are;
  text = IsUtf8-from_ascii digits (IsAscii-from_all digits (digits_ascii base digits high are));
}

-- ---- numbers

pub number_field : (n : ℕ) → n < 10 ^ 10 → IsField (decimal n)
number_field n low = let is = decimal_is_IsNumeral n (omega arith) in digits_field 10 (decimal n) (omega arith) is.0.0 is.0.1

number_by : (field : List ℕ) (n : ℕ) → 0 < length field → length field ≤ 10 → list_all (λ byte. is_digit byte 10) field ≡ true → digits_value 10 field ≡ n → number_in field ≡ Some n
unfolding number_in digits_in
number_by field n some few pass value = grind (arith, nat_tests)

pub number_read : (n : ℕ) → n < 10 ^ 10 → number_in (decimal n) ≡ Some n
number_read n low =
    let is = decimal_is_IsNumeral n (omega arith) in
    number_by (decimal n) n is.0.0 (length-decimal-le 10 n (omega arith) low (omega arith)) (digits_pass 10 (decimal n) is.0.1) is.1

-- ---- words

digit_back : (n : ℕ) → n < 16 → digit_value (digit_of n) ≡ n
digit_back n low = grind (arith, nat_tests)

sixteens : (count : ℕ) → 0 < 16 ^ count
sixteens zero = omega arith
sixteens (suc count) = omega (arith, sixteens count)

hex_are : (count n : ℕ) → AllDigits 16 (hex_digits count n)
hex_are zero n = tt
hex_are (suc count) n = (omega (arith, digit_back (n / 16 ^ count % 16) (omega arith)), hex_are count n)

shifted : (a d p low whole : ℕ) → whole ≡ d * p + low → (a * 16 + d) * p + low ≡ a * (16 * p) + whole
shifted a d p low whole e = grind arith

hex_after : (count n a : ℕ) → digits_value_after 16 a (hex_digits count n) ≡ a * 16 ^ count + n % 16 ^ count
hex_after zero n a = omega arith
hex_after (suc count) n a =
    let d : ℕ = n / 16 ^ count % 16 in
    let here : a * 16 + digit_value (digit_of d) ≡ a * 16 + d = ap (λ v. a * 16 + v) (digit_back d (omega arith)) in
    let power : 16 * 16 ^ count ≡ 16 ^ suc count = omega arith in
    let whole : n % (16 * 16 ^ count) ≡ d * 16 ^ count + n % 16 ^ count = mod-mul n (omega arith) (sixteens count) in
    ap (λ v. digits_value_after 16 v (hex_digits count n)) here ∙ hex_after count n (a * 16 + d)
    ∙ shifted a d (16 ^ count) (n % 16 ^ count) (n % (16 * 16 ^ count)) whole ∙ ap (λ p. a * p + n % p) power

pub word_text_field : (word : ℕ) → IsField (hex_digits 8 word)
word_text_field word = digits_field 16 (hex_digits 8 word) (omega arith) (omega arith) (hex_are 8 word)

pub word_read : (word : ℕ) → word < 2 ^ 32 → word_in (hex_digits 8 word) ≡ Some word
unfolding word_in digits_in
word_read word low = rw (digits_pass 16 (hex_digits 8 word) (hex_are 8 word)) (ap Some (hex_after 8 word 0 ∙ omega arith))

-- ---- fixed words and names

abbrev pub is_plain : ℕ → Bool
is_plain byte = nat_lt 35 byte && nat_lt byte 128

plain_by : (byte : ℕ) → is_plain byte ≡ true → (35 < byte) × (byte < 128)
plain_by byte e = (grind (arith, nat_tests), grind (arith, nat_tests))

plain_first : (byte : ℕ) (field : List ℕ) → list_all is_plain (byte ∷ field) ≡ true → (is_plain byte ≡ true) × (list_all is_plain field ≡ true)
plain_first byte field e = (grind (arith, nat_tests), grind (arith, nat_tests))

fixed_plain : (field : List ℕ) → list_all is_plain field ≡ true → All IsFieldByte field
fixed_plain [] e = All-nil IsFieldByte
fixed_plain (byte ∷ field) e =
    let parts = plain_first byte field e in
    let from : 35 < byte = (plain_by byte parts.0).0 in
    All-cons IsFieldByte byte field (grind (arith, nat_tests), grind (arith, nat_tests), λ e. absurd (omega arith), λ e. absurd (omega arith)) (fixed_plain field parts.1)

fixed_ascii : (field : List ℕ) → list_all is_plain field ≡ true → All (λ byte. byte < 128) field
fixed_ascii [] e = All-nil (λ byte. byte < 128)
fixed_ascii (byte ∷ field) e =
    let parts = plain_first byte field e in
    All-cons (λ byte. byte < 128) byte field (plain_by byte parts.0).1 (fixed_ascii field parts.1)

pub fixed_field : (field : List ℕ) → 0 < length field → list_all is_plain field ≡ true → IsField field
fixed_field field some e = record { some = some; plain = fixed_plain field e; text = IsUtf8-from_ascii field (IsAscii-from_all field (fixed_ascii field e)) }

pub name_field : (name : List ℕ) → IsName name → IsField name
name_field name is = record { some = is.some; plain = is.plain; text = IsUtf8-from_is_utf8 name is.text }
