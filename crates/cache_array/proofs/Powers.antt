-- Sets and words of a line are powers of two: division by them is a shift, and the remainder a mask.
use Rattle.std.proofs.Common.{◌≡◌, ℕ, zero, suc, ◌+◌, ◌-◌, ◌*◌, ◌/◌, ◌%◌, ◌<◌, ◌^◌, true, refl, sym, ap, ◌∙◌, subst, bit_and, arith}
use Rattle.std.specs.Int.{is_power_of_two}
use Rattle.std.proofs.lemmas.Nat.{and_mask, mod_below, mod-mul-add, div-mul-add}
use Rattle.std.proofs.Math.Nat.{pow-suc, mod-add-div}
use lib.Count.{ones, ones-le, ones_step, count_trailing_zeros, under}

-- a number without a set digit is 0
no_ones : (k n : ℕ) → n < 2 ^ k → ones n ≡ 0 → n ≡ 0
no_ones zero n h none = omega arith
no_ones (suc k) n h none =
    let half : ones (n / 2) ≡ 0 = let step = ones_step n in omega arith in
    let rest : n / 2 ≡ 0 = no_ones k (n / 2) (let more = pow-suc 2 k in omega arith) half in
    let step = ones_step n in omega arith

-- below the lowest digit
lowest : (k n d : ℕ) → n % 2 ≡ d → n < 2 ^ suc k → ones n ≡ 1 → (ones (n / 2) ≡ 1 → n / 2 ≡ 2 ^ count_trailing_zeros k (n / 2))
    → n ≡ 2 ^ under d (count_trailing_zeros k (n / 2))
lowest k n zero digit h one rest =
    let half : ones (n / 2) ≡ 1 = let step = ones_step n in omega arith in
    let same = rest half in
    let twice = pow-suc 2 (count_trailing_zeros k (n / 2)) in omega arith
lowest k n (suc d) digit h one rest =
    let none : ones (n / 2) ≡ 0 = let step = ones_step n in omega arith in
    let small : n / 2 ≡ 0 = no_ones k (n / 2) (let more = pow-suc 2 k in omega arith) none in
    omega arith

pub power_of_two : (k n : ℕ) → n < 2 ^ k → ones n ≡ 1 → n ≡ 2 ^ count_trailing_zeros k n
unfolding count_trailing_zeros
power_of_two zero n h one = absurd (let none = ones-le zero n h in omega arith)
power_of_two (suc k) n h one = lowest k n (n % 2) refl h one (λ half. power_of_two k (n / 2) (let more = pow-suc 2 k in omega arith) half)

-- a number that is a power of two, by the place of its set digit
power_is : (n : ℕ) → is_power_of_two n ≡ true → n < 2 ^ 32 → n ≡ 2 ^ count_trailing_zeros 32 n
power_is n power h = power_of_two 32 n h (grind (arith, power))

-- a mask in place of a remainder
pub masked : (n m : ℕ) → is_power_of_two m ≡ true → m < 2 ^ 32 → bit_and n (m - 1) ≡ n % m
masked n m power h = subst (λ (p : ℕ). bit_and n (p - 1) ≡ n % p) (sym (power_is m power h)) (and_mask n (count_trailing_zeros 32 m))

-- a shift in place of a division
pub shifted : (n m : ℕ) → is_power_of_two m ≡ true → m < 2 ^ 32 → n / 2 ^ count_trailing_zeros 32 m ≡ n / m
shifted n m power h = ap (λ (p : ℕ). n / p) (sym (power_is m power h))

-- the words of lines before the line's own
pub word_of_line : (address count : ℕ) → 0 < count → address % (4 * count) / 4 ≡ address / 4 % count
word_of_line address count some =
    let place : address / 4 % count < count = mod_below (address / 4) count some in
    let byte : address % 4 < 4 = mod_below address 4 (omega arith) in
    let words : address / 4 % count + count * (address / 4 / count) ≡ address / 4 = mod-add-div (address / 4) count in
    let bytes : address % 4 + 4 * (address / 4) ≡ address = mod-add-div address 4 in
    let split : address / 4 / count * (4 * count) + (address / 4 % count * 4 + address % 4) ≡ address = grind (arith, words, bytes) in
    let left : address % (4 * count) ≡ address / 4 % count * 4 + address % 4 =
    ap (λ (a : ℕ). a % (4 * count)) (sym split) ∙ mod-mul-add (address / 4 / count) (4 * count) (address / 4 % count * 4 + address % 4) (omega arith) in
    ap (λ (a : ℕ). a / 4) left ∙ div-mul-add (address / 4 % count) 4 (address % 4) byte
