-- The instruction table: which instruction a word stands for. The names of fields, formats and instructions are those of
-- the RISC-V Unprivileged ISA, version 20191213, whose sections are given.
use Rattle.std.specs.Prelude.{◌≡◌, ℕ, ◌+◌, ◌*◌, ◌^◌, ◌<◌, ◌≤◌, ◌↔◌, ℤ, pos, List, [], ◌∷◌, length, Bool, true, ◌==◌, ◌&&◌, ◌⊎◌, Option, Some, None, if◌then◌else◌}
use Rattle.std.specs.List.{filter}
use Rattle.pmsi_model.specs.declared.instr.Instr.{Instr}
use Rattle.pmsi_model.specs.declared.instr.Instr.TheVariants.{Lui, Auipc, Jal, Jalr, Branch, Load, Store, OpImm, Op, Amo, Fence, Ecall, Ebreak}
use Rattle.pmsi_model.specs.declared.instr.BranchOp.{BranchOp}
use Rattle.pmsi_model.specs.declared.instr.BranchOp.TheVariants.{Beq, Bne, Blt, Bge, Bltu, Bgeu}
use Rattle.pmsi_model.specs.declared.instr.LoadOp.{LoadOp}
use Rattle.pmsi_model.specs.declared.instr.LoadOp.TheVariants.{Lb, Lh, Lw, Lbu, Lhu}
use Rattle.pmsi_model.specs.declared.instr.StoreOp.{StoreOp}
use Rattle.pmsi_model.specs.declared.instr.StoreOp.TheVariants.{Sb, Sh, Sw}
use Rattle.pmsi_model.specs.declared.instr.ImmOp.{ImmOp}
use Rattle.pmsi_model.specs.declared.instr.ImmOp.TheVariants.{Addi, Slli, Slti, Sltiu, Xori, Srli, Srai, Ori, Andi}
use Rattle.pmsi_model.specs.declared.instr.RegOp.{RegOp}
use Rattle.pmsi_model.specs.declared.instr.RegOp.TheVariants.{Add, Sub, Sll, Slt, Sltu, Xor, Srl, Sra, Or, And}
use Rattle.pmsi_model.specs.declared.instr.AmoOp.{AmoOp}
use Rattle.pmsi_model.specs.declared.instr.AmoOp.TheVariants.{Amoadd, Amoswap, Amoxor, Amoor, Amoand, Amomin, Amomax, Amominu, Amomaxu}
use Rattle.pmsi_model.specs.Words.{bits_at, signed}

-- bits of a word that an instruction fixes
pub record Field : Type 0 where
  pub low : ℕ
  pub count : ℕ
  pub value : ℕ

abbrev pub opcode : ℕ → Field
opcode value = record { low = 0; count = 7; value = value }

abbrev pub funct3 : ℕ → Field
funct3 value = record { low = 12; count = 3; value = value }

abbrev pub funct7 : ℕ → Field
funct7 value = record { low = 25; count = 7; value = value }

abbrev pub funct5 : ℕ → Field
funct5 value = record { low = 27; count = 5; value = value }

abbrev pub funct12 : ℕ → Field
funct12 value = record { low = 20; count = 12; value = value }

abbrev pub fixed_rd : ℕ → Field
fixed_rd value = record { low = 7; count = 5; value = value }

abbrev pub fixed_rs1 : ℕ → Field
fixed_rs1 value = record { low = 15; count = 5; value = value }

abbrev pub has_fields : List Field → ℕ → Bool
has_fields [] word = true
has_fields (field ∷ fields) word = (bits_at field.low field.count word == field.value) && has_fields fields word

-- the register fields (section 2.2)
abbrev pub rd : ℕ → ℕ
rd word = bits_at 7 5 word

abbrev pub rs1 : ℕ → ℕ
rs1 word = bits_at 15 5 word

abbrev pub rs2 : ℕ → ℕ
rs2 word = bits_at 20 5 word

-- a run of an immediate's bits: `count` bits of the word, from place `low` on, stand in the immediate from place `at` on
pub record BitRun : Type 0 where
  pub low : ℕ
  pub count : ℕ
  pub at : ℕ

abbrev pub bit_run : ℕ → ℕ → ℕ → BitRun
bit_run low count at = record { low = low; count = count; at = at }

-- the number that runs of bits spell
abbrev pub spelt : List BitRun → ℕ → ℕ
spelt [] word = 0
spelt (r ∷ rs) word = 2 ^ r.at * bits_at r.low r.count word + spelt rs word

-- the immediates of the formats I, S, B, U and J (section 2.3); all but U's twenty bits are sign-extended, and those of B
-- and J are even: their bit 0 is 0, and isn't in the word
abbrev pub imm_i : ℕ → ℤ
imm_i word = signed 12 (spelt (bit_run 20 12 0 ∷ []) word)

abbrev pub imm_s : ℕ → ℤ
imm_s word = signed 12 (spelt (bit_run 25 7 5 ∷ bit_run 7 5 0 ∷ []) word)

abbrev pub imm_b : ℕ → ℤ
imm_b word = signed 13 (spelt (bit_run 31 1 12 ∷ bit_run 7 1 11 ∷ bit_run 25 6 5 ∷ bit_run 8 4 1 ∷ []) word)

abbrev pub imm_u : ℕ → ℕ
imm_u word = bits_at 12 20 word

abbrev pub imm_j : ℕ → ℤ
imm_j word = signed 21 (spelt (bit_run 31 1 20 ∷ bit_run 12 8 12 ∷ bit_run 20 1 11 ∷ bit_run 21 10 1 ∷ []) word)

-- the shift amount of a shift by an immediate (section 2.4)
abbrev pub shamt : ℕ → ℤ
shamt word = pos (bits_at 20 5 word)

-- the ordering bits of an AMO (section 8.1); they change nothing here, where accesses take effect one at a time on one
-- memory, and each core's in program order
abbrev pub aq : ℕ → Bool
aq word = bits_at 26 1 word == 1

abbrev pub rl : ℕ → Bool
rl word = bits_at 25 1 word == 1

-- a row of the table: the fixed fields of the words, and the instruction that such a word stands for
pub record Encoding : Type 0 where
  pub fixed : List Field
  pub reads : ℕ → Instr

abbrev pub branch_row : ℕ → BranchOp → Encoding
branch_row f3 op = record { fixed = opcode 0b1100011 ∷ funct3 f3 ∷ []; reads = λ w. Branch op (rs1 w) (rs2 w) (imm_b w) }

abbrev pub load_row : ℕ → LoadOp → Encoding
load_row f3 op = record { fixed = opcode 0b0000011 ∷ funct3 f3 ∷ []; reads = λ w. Load op (rd w) (rs1 w) (imm_i w) }

abbrev pub store_row : ℕ → StoreOp → Encoding
store_row f3 op = record { fixed = opcode 0b0100011 ∷ funct3 f3 ∷ []; reads = λ w. Store op (rs1 w) (rs2 w) (imm_s w) }

abbrev pub imm_row : ℕ → ImmOp → Encoding
imm_row f3 op = record { fixed = opcode 0b0010011 ∷ funct3 f3 ∷ []; reads = λ w. OpImm op (rd w) (rs1 w) (imm_i w) }

abbrev pub shift_row : ℕ → ℕ → ImmOp → Encoding
shift_row f7 f3 op = record { fixed = opcode 0b0010011 ∷ funct3 f3 ∷ funct7 f7 ∷ []; reads = λ w. OpImm op (rd w) (rs1 w) (shamt w) }

abbrev pub op_row : ℕ → ℕ → RegOp → Encoding
op_row f7 f3 op = record { fixed = opcode 0b0110011 ∷ funct3 f3 ∷ funct7 f7 ∷ []; reads = λ w. Op op (rd w) (rs1 w) (rs2 w) }

abbrev pub amo_row : ℕ → AmoOp → Encoding
amo_row f5 op = record { fixed = opcode 0b0101111 ∷ funct3 0b010 ∷ funct5 f5 ∷ []; reads = λ w. Amo op (rd w) (rs1 w) (rs2 w) (aq w) (rl w) }

-- an environment call or a breakpoint is one word: all its fields are fixed
abbrev pub system_row : ℕ → Instr → Encoding
system_row f12 instr = record { fixed = opcode 0b1110011 ∷ fixed_rd 0 ∷ funct3 0b000 ∷ fixed_rs1 0 ∷ funct12 f12 ∷ []; reads = λ w. instr }

-- the table: RV32I (chapter 2, and the listings of chapter 24), and the word AMO instructions (section 8.4)
abbrev pub instruction_rows : List Encoding
instruction_rows =
    -- integer computational instructions (section 2.4)
    record { fixed = opcode 0b0110111 ∷ []; reads = λ w. Lui (rd w) (imm_u w) }
    ∷ record { fixed = opcode 0b0010111 ∷ []; reads = λ w. Auipc (rd w) (imm_u w) }
    ∷ imm_row 0b000 Addi
    ∷ shift_row 0b0000000 0b001 Slli
    ∷ imm_row 0b010 Slti
    ∷ imm_row 0b011 Sltiu
    ∷ imm_row 0b100 Xori
    ∷ shift_row 0b0000000 0b101 Srli
    ∷ shift_row 0b0100000 0b101 Srai
    ∷ imm_row 0b110 Ori
    ∷ imm_row 0b111 Andi
    ∷ op_row 0b0000000 0b000 Add
    ∷ op_row 0b0100000 0b000 Sub
    ∷ op_row 0b0000000 0b001 Sll
    ∷ op_row 0b0000000 0b010 Slt
    ∷ op_row 0b0000000 0b011 Sltu
    ∷ op_row 0b0000000 0b100 Xor
    ∷ op_row 0b0000000 0b101 Srl
    ∷ op_row 0b0100000 0b101 Sra
    ∷ op_row 0b0000000 0b110 Or
    ∷ op_row 0b0000000 0b111 And
    -- control transfer instructions (section 2.5)
    ∷ record { fixed = opcode 0b1101111 ∷ []; reads = λ w. Jal (rd w) (imm_j w) }
    ∷ record { fixed = opcode 0b1100111 ∷ funct3 0b000 ∷ []; reads = λ w. Jalr (rd w) (rs1 w) (imm_i w) }
    ∷ branch_row 0b000 Beq
    ∷ branch_row 0b001 Bne
    ∷ branch_row 0b100 Blt
    ∷ branch_row 0b101 Bge
    ∷ branch_row 0b110 Bltu
    ∷ branch_row 0b111 Bgeu
    -- load and store instructions (section 2.6)
    ∷ load_row 0b000 Lb
    ∷ load_row 0b001 Lh
    ∷ load_row 0b010 Lw
    ∷ load_row 0b100 Lbu
    ∷ load_row 0b101 Lhu
    ∷ store_row 0b000 Sb
    ∷ store_row 0b001 Sh
    ∷ store_row 0b010 Sw
    -- memory ordering instructions (section 2.7): the other fields are free, as a base implementation ignores them, and the
    -- word is kept
    ∷ record { fixed = opcode 0b0001111 ∷ funct3 0b000 ∷ []; reads = λ w. Fence w }
    -- environment call and breakpoints (section 2.8)
    ∷ system_row 0 Ecall
    ∷ system_row 1 Ebreak
    -- atomic memory operations (section 8.4)
    ∷ amo_row 0b00000 Amoadd
    ∷ amo_row 0b00001 Amoswap
    ∷ amo_row 0b00100 Amoxor
    ∷ amo_row 0b01000 Amoor
    ∷ amo_row 0b01100 Amoand
    ∷ amo_row 0b10000 Amomin
    ∷ amo_row 0b10100 Amomax
    ∷ amo_row 0b11000 Amominu
    ∷ amo_row 0b11100 Amomaxu
    ∷ []

-- a row of the table reads the word as the instruction
abbrev pub IsReadBy : List Encoding → ℕ → Instr → Type 0
IsReadBy [] word instr = ⊥
IsReadBy (row ∷ rows) word instr = ((has_fields row.fixed word ≡ true) × (row.reads word ≡ instr)) ⊎ IsReadBy rows word instr

-- a word encodes the instruction
abbrev pub IsEncodingOf : ℕ → Instr → Type 0
IsEncodingOf word instr = (word < 2 ^ 32) × IsReadBy instruction_rows word instr

-- an instruction has a row: some word encodes it
abbrev pub HasRow : Instr → Type 0
HasRow instr = (word : ℕ) × IsEncodingOf word instr

-- the instruction by the first row that fits
abbrev pub read_by : List Encoding → ℕ → Option Instr
read_by [] word = None
read_by (row ∷ rows) word = if has_fields row.fixed word then Some (row.reads word) else read_by rows word

-- the instruction of a word, if it has a row
unfoldable pub instr_of : ℕ → Option Instr
instr_of word = read_by instruction_rows word

-- a word has one row at most
abbrev pub HasOneRow : Type 0
HasOneRow = (word : ℕ) → length (filter (λ row. has_fields row.fixed word) instruction_rows) ≤ 1

-- the two readings agree, so a word stands for one instruction at most
abbrev pub ReadsOneWay : Type 0
ReadsOneWay = (word : ℕ) (instr : Instr) → word < 2 ^ 32 → IsEncodingOf word instr ↔ (instr_of word ≡ Some instr)
