-- Numbers, registers and fence operands as they are spelt.
use Rattle.std.specs.Prelude.{ℕ, ◌+◌, ◌-◌, ◌*◌, ◌^◌, ℤ, pos, neg_ℤ, int_lt, Bool, not, ◌&&◌, ◌==◌, nat_le, nat_lt, if◌then◌else◌, List, [], ◌∷◌, take, drop, codes, Option, Some, None}
use Rattle.std.specs.List.{find}
use Rattle.std.specs.Str.{bytes_eq}
use Rattle.std.specs.Option.{option_map}

-- ---- numbers

-- the value of a digit, decimal or hexadecimal of either case
abbrev pub digit_of : ℕ → Option ℕ
digit_of b =
    if nat_le 48 b && nat_le b 57 then Some (b - 48)
    else (if nat_le 97 b && nat_le b 102 then Some (b - 87)
    else (if nat_le 65 b && nat_le b 70 then Some (b - 55)
    else None))

-- a number with a digit behind it
abbrev pub with_digit : ℕ → Option ℕ → Option ℕ → Option ℕ
with_digit base None digit = None
with_digit base (Some n) None = None
with_digit base (Some n) (Some d) = if nat_lt d base then Some (n * base + d) else None

unfoldable pub digits_behind : ℕ → Option ℕ → List ℕ → Option ℕ
digits_behind base before [] = before
digits_behind base before (b ∷ bs) = digits_behind base (with_digit base before (digit_of b)) bs

-- the number that some digits spell
abbrev pub digits_number : ℕ → List ℕ → Option ℕ
digits_number base [] = None
digits_number base (b ∷ bs) = digits_behind base (Some 0) (b ∷ bs)

-- decimal digits, or `0x` and hexadecimal ones
unfoldable pub number_spelt : List ℕ → Option ℕ
number_spelt text = if bytes_eq (take 2 text) (codes "0x") then digits_number 16 (drop 2 text) else digits_number 10 text

abbrev pub is_between : ℤ → ℤ → ℤ → Bool
is_between least greatest n = not (int_lt n least) && not (int_lt greatest n)

-- a number of a source is from -2^31 to 2^32 - 1
abbrev pub is_number : ℤ → Bool
is_number n = is_between (neg_ℤ (pos (2 ^ 31))) (pos (2 ^ 32 - 1)) n

abbrev pub if_number : ℤ → Option ℤ
if_number n = if is_number n then Some n else None

abbrev pub signed_number : Bool → Option ℕ → Option ℤ
signed_number negative None = None
signed_number negative (Some n) = if_number (if negative then neg_ℤ (pos n) else pos n)

-- ---- names from tables

abbrev pub value_in : {A : Type 0} → List (List ℕ × A) → List ℕ → Option A
value_in rows text = option_map (λ row. row.1) (find (λ row. bytes_eq row.0 text) rows)

-- the registers by their numbers, and by their names of the standard's calling convention
unfoldable pub registers : List (List ℕ × ℕ)
registers =
    (codes "x0", 0) ∷ (codes "x1", 1) ∷ (codes "x2", 2) ∷ (codes "x3", 3) ∷ (codes "x4", 4) ∷ (codes "x5", 5) ∷ (codes "x6", 6) ∷ (codes "x7", 7)
    ∷ (codes "x8", 8) ∷ (codes "x9", 9) ∷ (codes "x10", 10) ∷ (codes "x11", 11) ∷ (codes "x12", 12) ∷ (codes "x13", 13) ∷ (codes "x14", 14)
    ∷ (codes "x15", 15) ∷ (codes "x16", 16) ∷ (codes "x17", 17) ∷ (codes "x18", 18) ∷ (codes "x19", 19) ∷ (codes "x20", 20) ∷ (codes "x21", 21)
    ∷ (codes "x22", 22) ∷ (codes "x23", 23) ∷ (codes "x24", 24) ∷ (codes "x25", 25) ∷ (codes "x26", 26) ∷ (codes "x27", 27) ∷ (codes "x28", 28)
    ∷ (codes "x29", 29) ∷ (codes "x30", 30) ∷ (codes "x31", 31)
    ∷ (codes "zero", 0) ∷ (codes "ra", 1) ∷ (codes "sp", 2) ∷ (codes "gp", 3) ∷ (codes "tp", 4) ∷ (codes "fp", 8)
    ∷ (codes "t0", 5) ∷ (codes "t1", 6) ∷ (codes "t2", 7) ∷ (codes "t3", 28) ∷ (codes "t4", 29) ∷ (codes "t5", 30) ∷ (codes "t6", 31)
    ∷ (codes "s0", 8) ∷ (codes "s1", 9) ∷ (codes "s2", 18) ∷ (codes "s3", 19) ∷ (codes "s4", 20) ∷ (codes "s5", 21) ∷ (codes "s6", 22)
    ∷ (codes "s7", 23) ∷ (codes "s8", 24) ∷ (codes "s9", 25) ∷ (codes "s10", 26) ∷ (codes "s11", 27)
    ∷ (codes "a0", 10) ∷ (codes "a1", 11) ∷ (codes "a2", 12) ∷ (codes "a3", 13) ∷ (codes "a4", 14) ∷ (codes "a5", 15) ∷ (codes "a6", 16)
    ∷ (codes "a7", 17)
    ∷ []

unfoldable pub register_named : List ℕ → Option ℕ
register_named text = value_in registers text

-- ---- fence operands

abbrev pub fence_letters : List (ℕ × ℕ)
fence_letters = (105, 8) ∷ (111, 4) ∷ (114, 2) ∷ (119, 1) ∷ []

abbrev pub weight_of : ℕ → Option ℕ
weight_of b = option_map (λ row. row.1) (find (λ row. row.0 == b) fence_letters)

abbrev pub with_weight : ℕ → ℕ → Option ℕ → Option (ℕ × ℕ)
with_weight least sum None = None
with_weight least sum (Some w) = if nat_lt w least then Some (w, sum + w) else None

-- the sum of the letters i, o, r and w (8, 4, 2 and 1), in this order and each at most once; the state is the weight of the
-- letter before and the sum so far
unfoldable pub weights_behind : Option (ℕ × ℕ) → List ℕ → Option ℕ
weights_behind None bs = None
weights_behind (Some state) [] = Some state.1
weights_behind (Some state) (b ∷ bs) = weights_behind (with_weight state.0 state.1 (weight_of b)) bs

unfoldable pub fence_set : List ℕ → Option ℕ
fence_set [] = None
fence_set (b ∷ bs) = weights_behind (Some (16, 0)) (b ∷ bs)
