-- The immediates and distances of instructions of the table are ones that the assembler takes.
use Rattle.std.proofs.Common.{◌≡◌, ℕ, ◌%◌, ◌^◌, ◌<◌, ◌≤◌, true, arith}
use Rattle.std.specs.Prelude.{ℤ, pos, negsuc, ◌+ℤ◌, ◌-ℤ◌, ◌==◌}
use Rattle.std.proofs.lemmas.Int.{ints}
use borrow.Author.Tests.{tests}
use Rattle.pmsi_model.specs.Words.{word_of}
use Rattle.rv_decode.specs.Ranges.{IsSigned, IsOffset, IsShift}
use Rattle.asm_operands.specs.Numbers.{is_number}
use Rattle.asm_parse.specs.Mnemonics.{in_32_bits, is_imm_12, is_imm_20, is_shift, reaches}

pub imm_12 : (z : ℤ) → IsSigned 12 z → is_imm_12 z ≡ true
imm_12 z in_range = grind (arith, ints, tests)

pub imm_12_number : (z : ℤ) → IsSigned 12 z → is_number z ≡ true
imm_12_number z in_range = grind (arith, ints, tests)

pub shift : (z : ℤ) → IsShift z → is_shift z ≡ true
shift z in_range = grind (arith, ints, tests)

pub shift_number : (z : ℤ) → IsShift z → is_number z ≡ true
shift_number z in_range = grind (arith, ints, tests)

pub imm_20 : (n : ℕ) → n < 2 ^ 20 → is_imm_20 (pos n) ≡ true
imm_20 n low = grind (arith, ints, tests)

pub natural_number : (n : ℕ) → n < 2 ^ 32 → is_number (pos n) ≡ true
natural_number n low = grind (arith, ints, tests)

even_pos : (n : ℕ) → word_of (pos n) % 2 ≡ 0 → (in_32_bits (pos n) % 2 == 0) ≡ true
even_pos n even = grind (arith, ints, tests)

even_negsuc : (n : ℕ) → n < 2 ^ 31 → word_of (negsuc n) % 2 ≡ 0 → (in_32_bits (negsuc n) % 2 == 0) ≡ true
even_negsuc n low even = grind (arith, ints, tests)

pub reach_20 : (z : ℤ) → IsOffset 21 z → reaches 1048576 z ≡ true
reach_20 (pos n) in_range = rw (even_pos n in_range.1) (grind (arith, ints, tests))
reach_20 (negsuc n) in_range = rw (even_negsuc n (omega (arith, ints)) in_range.1) (grind (arith, ints, tests))

pub reach_12 : (z : ℤ) → IsOffset 13 z → reaches 4096 z ≡ true
reach_12 (pos n) in_range = rw (even_pos n in_range.1) (grind (arith, ints, tests))
reach_12 (negsuc n) in_range = rw (even_negsuc n (omega (arith, ints)) in_range.1) (grind (arith, ints, tests))

pub target_20 : (pc : ℕ) (z : ℤ) → pc ≤ 65536 → IsOffset 21 z → is_number (pos pc +ℤ z) ≡ true
target_20 pc z low in_range = grind (arith, ints, tests)

pub target_12 : (pc : ℕ) (z : ℤ) → pc ≤ 65536 → IsOffset 13 z → is_number (pos pc +ℤ z) ≡ true
target_12 pc z low in_range = grind (arith, ints, tests)

pub zero_plus : (z : ℤ) → pos 0 +ℤ z ≡ z
zero_plus z = omega (arith, ints)

pub distance : (pc : ℕ) (z : ℤ) → (pos pc +ℤ z) -ℤ pos pc ≡ z
distance pc z = omega (arith, ints)
