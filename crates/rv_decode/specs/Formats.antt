-- Words put together from their fields: the formats of sections 2.2 and 2.3 of the RISC-V Unprivileged ISA, and the
-- format and the fixed fields of each instruction.
use Rattle.std.specs.Prelude.{ℕ, ◌+◌, ◌*◌, ◌^◌, ℤ, pos, ◌+ℤ◌, Bool, if◌then◌else◌}
use Rattle.pmsi_model.specs.declared.instr.Instr.{Instr}
use Rattle.pmsi_model.specs.declared.instr.Instr.TheVariants.{Lui, Auipc, Jal, Jalr, Branch, Load, Store, OpImm, Op, Amo, Fence, Ecall, Ebreak}
use Rattle.pmsi_model.specs.declared.instr.BranchOp.{BranchOp}
use Rattle.pmsi_model.specs.declared.instr.BranchOp.TheVariants.{Beq, Bne, Blt, Bge, Bltu, Bgeu}
use Rattle.pmsi_model.specs.declared.instr.LoadOp.{LoadOp}
use Rattle.pmsi_model.specs.declared.instr.LoadOp.TheVariants.{Lb, Lh, Lw, Lbu, Lhu}
use Rattle.pmsi_model.specs.declared.instr.StoreOp.{StoreOp}
use Rattle.pmsi_model.specs.declared.instr.StoreOp.TheVariants.{Sb, Sh, Sw}
use Rattle.pmsi_model.specs.declared.instr.ImmOp.{ImmOp}
use Rattle.pmsi_model.specs.declared.instr.ImmOp.TheVariants.{Addi, Slli, Slti, Sltiu, Xori, Srli, Srai, Ori, Andi}
use Rattle.pmsi_model.specs.declared.instr.RegOp.{RegOp}
use Rattle.pmsi_model.specs.declared.instr.RegOp.TheVariants.{Add, Sub, Sll, Slt, Sltu, Xor, Srl, Sra, Or, And}
use Rattle.pmsi_model.specs.declared.instr.AmoOp.{AmoOp}
use Rattle.pmsi_model.specs.declared.instr.AmoOp.TheVariants.{Amoadd, Amoswap, Amoxor, Amoor, Amoand, Amomin, Amomax, Amominu, Amomaxu}
use Rattle.pmsi_model.specs.Words.{bits_at, word_of}

-- the `count` bits of an immediate from place `low` on
abbrev pub imm_bits : ℕ → ℕ → ℤ → ℕ
imm_bits low count imm = bits_at low count (word_of imm)

abbrev pub r_word : ℕ → ℕ → ℕ → ℕ → ℕ → ℕ → ℕ
r_word f7 rs2 rs1 f3 rd op = op + 2 ^ 7 * rd + 2 ^ 12 * f3 + 2 ^ 15 * rs1 + 2 ^ 20 * rs2 + 2 ^ 25 * f7

abbrev pub i_word : ℤ → ℕ → ℕ → ℕ → ℕ → ℕ
i_word imm rs1 f3 rd op = op + 2 ^ 7 * rd + 2 ^ 12 * f3 + 2 ^ 15 * rs1 + 2 ^ 20 * imm_bits 0 12 imm

abbrev pub s_word : ℤ → ℕ → ℕ → ℕ → ℕ → ℕ
s_word imm rs2 rs1 f3 op = op + 2 ^ 7 * imm_bits 0 5 imm + 2 ^ 12 * f3 + 2 ^ 15 * rs1 + 2 ^ 20 * rs2 + 2 ^ 25 * imm_bits 5 7 imm

abbrev pub b_word : ℤ → ℕ → ℕ → ℕ → ℕ → ℕ
b_word imm rs2 rs1 f3 op =
    op + 2 ^ 7 * imm_bits 11 1 imm + 2 ^ 8 * imm_bits 1 4 imm + 2 ^ 12 * f3 + 2 ^ 15 * rs1 + 2 ^ 20 * rs2
    + 2 ^ 25 * imm_bits 5 6 imm + 2 ^ 31 * imm_bits 12 1 imm

abbrev pub u_word : ℕ → ℕ → ℕ → ℕ
u_word imm rd op = op + 2 ^ 7 * rd + 2 ^ 12 * imm

abbrev pub j_word : ℤ → ℕ → ℕ → ℕ
j_word imm rd op = op + 2 ^ 7 * rd + 2 ^ 12 * imm_bits 12 8 imm + 2 ^ 20 * imm_bits 11 1 imm + 2 ^ 21 * imm_bits 1 10 imm + 2 ^ 31 * imm_bits 20 1 imm

-- the fields that tell an operation from the others of its opcode
abbrev pub branch_funct3 : BranchOp → ℕ
branch_funct3 Beq = 0b000
branch_funct3 Bne = 0b001
branch_funct3 Blt = 0b100
branch_funct3 Bge = 0b101
branch_funct3 Bltu = 0b110
branch_funct3 Bgeu = 0b111

abbrev pub load_funct3 : LoadOp → ℕ
load_funct3 Lb = 0b000
load_funct3 Lh = 0b001
load_funct3 Lw = 0b010
load_funct3 Lbu = 0b100
load_funct3 Lhu = 0b101

abbrev pub store_funct3 : StoreOp → ℕ
store_funct3 Sb = 0b000
store_funct3 Sh = 0b001
store_funct3 Sw = 0b010

abbrev pub imm_funct3 : ImmOp → ℕ
imm_funct3 Addi = 0b000
imm_funct3 Slli = 0b001
imm_funct3 Slti = 0b010
imm_funct3 Sltiu = 0b011
imm_funct3 Xori = 0b100
imm_funct3 Srli = 0b101
imm_funct3 Srai = 0b101
imm_funct3 Ori = 0b110
imm_funct3 Andi = 0b111

-- the immediate of the format I for an operation: bit 10 tells the two right shifts apart (section 2.4)
abbrev pub imm_field : ImmOp → ℤ → ℤ
imm_field Addi imm = imm
imm_field Slli imm = imm
imm_field Slti imm = imm
imm_field Sltiu imm = imm
imm_field Xori imm = imm
imm_field Srli imm = imm
imm_field Srai imm = imm +ℤ pos (2 ^ 10)
imm_field Ori imm = imm
imm_field Andi imm = imm

abbrev pub op_funct3 : RegOp → ℕ
op_funct3 Add = 0b000
op_funct3 Sub = 0b000
op_funct3 Sll = 0b001
op_funct3 Slt = 0b010
op_funct3 Sltu = 0b011
op_funct3 Xor = 0b100
op_funct3 Srl = 0b101
op_funct3 Sra = 0b101
op_funct3 Or = 0b110
op_funct3 And = 0b111

abbrev pub op_funct7 : RegOp → ℕ
op_funct7 Add = 0b0000000
op_funct7 Sub = 0b0100000
op_funct7 Sll = 0b0000000
op_funct7 Slt = 0b0000000
op_funct7 Sltu = 0b0000000
op_funct7 Xor = 0b0000000
op_funct7 Srl = 0b0000000
op_funct7 Sra = 0b0100000
op_funct7 Or = 0b0000000
op_funct7 And = 0b0000000

abbrev pub amo_funct5 : AmoOp → ℕ
amo_funct5 Amoadd = 0b00000
amo_funct5 Amoswap = 0b00001
amo_funct5 Amoxor = 0b00100
amo_funct5 Amoor = 0b01000
amo_funct5 Amoand = 0b01100
amo_funct5 Amomin = 0b10000
amo_funct5 Amomax = 0b10100
amo_funct5 Amominu = 0b11000
amo_funct5 Amomaxu = 0b11100

-- the field funct7 of an AMO: funct5, aq and rl (section 8.1)
abbrev pub amo_funct7 : AmoOp → Bool → Bool → ℕ
amo_funct7 op aq rl = 2 ^ 2 * amo_funct5 op + (if aq then 2 else 0) + (if rl then 1 else 0)

-- the word of an instruction
abbrev pub word_for : Instr → ℕ
word_for (Lui rd imm) = u_word imm rd 0b0110111
word_for (Auipc rd imm) = u_word imm rd 0b0010111
word_for (Jal rd offset) = j_word offset rd 0b1101111
word_for (Jalr rd rs1 imm) = i_word imm rs1 0b000 rd 0b1100111
word_for (Branch op rs1 rs2 offset) = b_word offset rs2 rs1 (branch_funct3 op) 0b1100011
word_for (Load op rd rs1 imm) = i_word imm rs1 (load_funct3 op) rd 0b0000011
word_for (Store op rs1 rs2 imm) = s_word imm rs2 rs1 (store_funct3 op) 0b0100011
word_for (OpImm op rd rs1 imm) = i_word (imm_field op imm) rs1 (imm_funct3 op) rd 0b0010011
word_for (Op op rd rs1 rs2) = r_word (op_funct7 op) rs2 rs1 (op_funct3 op) rd 0b0110011
word_for (Amo op rd rs1 rs2 aq rl) = r_word (amo_funct7 op aq rl) rs2 rs1 0b010 rd 0b0101111
word_for (Fence word) = word
word_for Ecall = i_word (pos 0) 0 0b000 0 0b1110011
word_for Ebreak = i_word (pos 1) 0 0b000 0 0b1110011
