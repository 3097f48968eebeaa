-- The ranges that the fields of an instruction have where some word encodes it.
use Rattle.std.specs.Prelude.{◌≡◌, ℕ, ◌-◌, ◌%◌, ◌^◌, ◌<◌, ◌↔◌, ℤ, pos, neg_ℤ, ◌≤ℤ◌, ◌<ℤ◌, [], ◌∷◌, true, ⊤}
use Rattle.pmsi_model.specs.declared.instr.Instr.{Instr}
use Rattle.pmsi_model.specs.declared.instr.Instr.TheVariants.{Lui, Auipc, Jal, Jalr, Branch, Load, Store, OpImm, Op, Amo, Fence, Ecall, Ebreak}
use Rattle.pmsi_model.specs.declared.instr.ImmOp.{ImmOp}
use Rattle.pmsi_model.specs.declared.instr.ImmOp.TheVariants.{Addi, Slli, Slti, Sltiu, Xori, Srli, Srai, Ori, Andi}
use Rattle.pmsi_model.specs.Words.{word_of}
use Rattle.pmsi_model.specs.Instruction.{HasRow, has_fields, opcode, funct3}

-- a register's number
abbrev pub IsReg : ℕ → Type 0
IsReg number = number < 32

-- a number of `count` bits in two's complement
abbrev pub IsSigned : ℕ → ℤ → Type 0
IsSigned count n = (neg_ℤ (pos (2 ^ (count - 1))) ≤ℤ n) × (n <ℤ pos (2 ^ (count - 1)))

-- an offset of `count` bits, the lowest of which is 0
abbrev pub IsOffset : ℕ → ℤ → Type 0
IsOffset count n = IsSigned count n × (word_of n % 2 ≡ 0)

-- a shift amount
abbrev pub IsShift : ℤ → Type 0
IsShift n = (pos 0 ≤ℤ n) × (n <ℤ pos 32)

-- the immediates of an operation
abbrev pub IsImmOf : ImmOp → ℤ → Type 0
IsImmOf Addi imm = IsSigned 12 imm
IsImmOf Slli imm = IsShift imm
IsImmOf Slti imm = IsSigned 12 imm
IsImmOf Sltiu imm = IsSigned 12 imm
IsImmOf Xori imm = IsSigned 12 imm
IsImmOf Srli imm = IsShift imm
IsImmOf Srai imm = IsShift imm
IsImmOf Ori imm = IsSigned 12 imm
IsImmOf Andi imm = IsSigned 12 imm

-- the fields are in range
abbrev pub IsInRange : Instr → Type 0
IsInRange (Lui rd imm) = IsReg rd × (imm < 2 ^ 20)
IsInRange (Auipc rd imm) = IsReg rd × (imm < 2 ^ 20)
IsInRange (Jal rd offset) = IsReg rd × IsOffset 21 offset
IsInRange (Jalr rd rs1 imm) = IsReg rd × IsReg rs1 × IsSigned 12 imm
IsInRange (Branch op rs1 rs2 offset) = IsReg rs1 × IsReg rs2 × IsOffset 13 offset
IsInRange (Load op rd rs1 imm) = IsReg rd × IsReg rs1 × IsSigned 12 imm
IsInRange (Store op rs1 rs2 imm) = IsReg rs1 × IsReg rs2 × IsSigned 12 imm
IsInRange (OpImm op rd rs1 imm) = IsReg rd × IsReg rs1 × IsImmOf op imm
IsInRange (Op op rd rs1 rs2) = IsReg rd × IsReg rs1 × IsReg rs2
IsInRange (Amo op rd rs1 rs2 aq rl) = IsReg rd × IsReg rs1 × IsReg rs2
IsInRange (Fence word) = (word < 2 ^ 32) × (has_fields (opcode 0b0001111 ∷ funct3 0b000 ∷ []) word ≡ true)
IsInRange Ecall = ⊤
IsInRange Ebreak = ⊤

-- an instruction has a row exactly where its fields are in range
abbrev pub RangesAreRows : Type 0
RangesAreRows = (instr : Instr) → IsInRange instr ↔ HasRow instr
