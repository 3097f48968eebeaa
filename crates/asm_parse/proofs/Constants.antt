-- A number of a source and its 32 bits.
use Rattle.std.proofs.Common.{◌≡◌, ◌+◌, ◌/◌, ◌%◌, ℕ, ℤ, pos, negsuc, true, false, ◌==◌, [], ◌∷◌, refl, ap, arith}
use Rattle.std.specs.Int.{w32, cast_signed}
use Rattle.pmsi_model.specs.declared.instr.Instr.{Instr}
use Rattle.pmsi_model.specs.declared.instr.Instr.TheVariants.{Lui, OpImm}
use Rattle.pmsi_model.specs.declared.instr.ImmOp.TheVariants.{Addi}
use Rattle.pmsi_model.specs.Words.{word_of, wrapped, signed}
use Rattle.asm_operands.specs.Numbers.{is_number}
use Rattle.asm_parse.specs.Mnemonics.{Known, Instruction, in_32_bits, high_part, low_part, is_imm_12, load_constant}

pub same_word : (n : ℤ) → is_number n ≡ true → word_of n ≡ in_32_bits n
same_word (pos n) h = grind arith
same_word (negsuc n) h = grind arith

same_bits : (n : ℤ) → is_number n ≡ true → in_32_bits (cast_signed w32 (in_32_bits n)) ≡ in_32_bits n
same_bits n h = grind arith

high_of_value : (n : ℤ) → is_number n ≡ true → high_part (cast_signed w32 (word_of n)) ≡ high_part n
high_of_value n h = rw (same_word n h) (ap (λ bits. wrapped (bits + 2048) / 4096) (same_bits n h))

low_of_value : (n : ℤ) → is_number n ≡ true → low_part (cast_signed w32 (word_of n)) ≡ low_part n
low_of_value n h = rw (same_word n h) (ap (λ bits. signed 12 (bits % 4096)) (same_bits n h))

-- a constant that needs two instructions
pub loads_both : (rd high : ℕ) (low n : ℤ) (addi : Instr) → is_number n ≡ true → is_imm_12 (cast_signed w32 (word_of n)) ≡ false → (word_of n % 4096 == 0) ≡ false
    → high ≡ high_part n → low ≡ low_part n → addi ≡ OpImm Addi rd rd low
    → Known (Instruction (Lui rd high)) ∷ Known (Instruction addi) ∷ [] ≡ load_constant rd n
loads_both rd high low n addi h wide both high_is low_is addi_is =
    rw wide (rw both (rw (high_of_value n h) (rw (low_of_value n h) (rw (addi_is, low_is, high_is) refl))))
