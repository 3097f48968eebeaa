-- What an instruction does to a core's registers and pc, what it asks of memory, and when it halts the core.
use Rattle.std.specs.Prelude.{ℕ, ◌+◌, ◌-◌, ◌*◌, ◌/◌, ◌%◌, ◌^◌, List, Bool, not, ◌==◌, nat_lt, if◌then◌else◌, slice_index, slice_set, replicate, bit_and, bit_or, bit_xor}
use Rattle.pmsi_model.specs.declared.Access.{Access}
use Rattle.pmsi_model.specs.declared.AccessOp.{AccessOp}
use Rattle.pmsi_model.specs.declared.AccessOp.TheVariants.{Load as LoadAccess, Store as StoreAccess, Amo as AmoAccess}
use Rattle.pmsi_model.specs.declared.Halt.{Halt}
use Rattle.pmsi_model.specs.declared.Halt.TheVariants.{Exit, Break, JumpMisaligned, Misaligned, Range}
use Rattle.pmsi_model.specs.declared.instr.Instr.{Instr}
use Rattle.pmsi_model.specs.declared.instr.Instr.TheVariants.{Lui, Auipc, Jal, Jalr, Branch, Load, Store, OpImm, Op, Amo, Fence, Ecall, Ebreak}
use Rattle.pmsi_model.specs.declared.instr.BranchOp.{BranchOp}
use Rattle.pmsi_model.specs.declared.instr.BranchOp.TheVariants.{Beq, Bne, Blt, Bge, Bltu, Bgeu}
use Rattle.pmsi_model.specs.declared.instr.ImmOp.{ImmOp}
use Rattle.pmsi_model.specs.declared.instr.ImmOp.TheVariants.{Addi, Slli, Slti, Sltiu, Xori, Srli, Srai, Ori, Andi}
use Rattle.pmsi_model.specs.declared.instr.RegOp.{RegOp}
use Rattle.pmsi_model.specs.declared.instr.RegOp.TheVariants.{Add, Sub, Sll, Slt, Sltu, Xor, Srl, Sra, Or, And}
use Rattle.pmsi_model.specs.Words.{wrapped, word_of, plus_signed, is_below_signed}
use Rattle.pmsi_model.specs.Access.{width_of}

-- what an instruction comes to: new registers and the next pc, an access to memory, or a halt
pub data Effect : Type 0 where
  Next : List ℕ → ℕ → Effect
  Memory : Access → Effect
  Stop : Halt → Effect

-- registers are a list of 32 words; x0 reads 0
abbrev pub reg_of : List ℕ → ℕ → ℕ
reg_of regs r = if r == 0 then 0 else slice_index regs r

-- a write to x0 is lost
abbrev pub with_reg : List ℕ → ℕ → ℕ → List ℕ
with_reg regs r value = if r == 0 then regs else slice_set regs r value

-- at the start x10 is the core's number, x11 the number of cores, and the others are 0
abbrev pub start_regs : ℕ → ℕ → List ℕ
start_regs core cores = slice_set (slice_set (replicate 32 0) 10 core) 11 cores

abbrev pub next_pc : ℕ → ℕ
next_pc pc = wrapped (pc + 4)

abbrev pub one_if : Bool → ℕ
one_if b = if b then 1 else 0

-- a word shifted to the right, by so many places, with copies of its sign bit: of a negative one the complement is shifted
abbrev pub shifted_signed : ℕ → ℕ → ℕ
shifted_signed word places = if nat_lt word (2 ^ 31) then word / 2 ^ places else (2 ^ 32 - 1) - (2 ^ 32 - 1 - word) / 2 ^ places

-- operations on two registers (section 2.4 of the RISC-V Unprivileged ISA); a shift takes the low five bits
abbrev pub op_result : RegOp → ℕ → ℕ → ℕ
op_result Add a b = wrapped (a + b)
op_result Sub a b = wrapped (a + (2 ^ 32 - b))
op_result Sll a b = wrapped (a * 2 ^ (b % 32))
op_result Slt a b = one_if (is_below_signed a b)
op_result Sltu a b = one_if (nat_lt a b)
op_result Xor a b = bit_xor a b
op_result Srl a b = a / 2 ^ (b % 32)
op_result Sra a b = shifted_signed a (b % 32)
op_result Or a b = bit_or a b
op_result And a b = bit_and a b

-- an operation on an immediate is that on a register which holds it
abbrev pub reg_op_of : ImmOp → RegOp
reg_op_of Addi = Add
reg_op_of Slli = Sll
reg_op_of Slti = Slt
reg_op_of Sltiu = Sltu
reg_op_of Xori = Xor
reg_op_of Srli = Srl
reg_op_of Srai = Sra
reg_op_of Ori = Or
reg_op_of Andi = And

-- whether a branch is taken (section 2.5)
abbrev pub is_taken : BranchOp → ℕ → ℕ → Bool
is_taken Beq a b = a == b
is_taken Bne a b = not (a == b)
is_taken Blt a b = is_below_signed a b
is_taken Bge a b = not (is_below_signed a b)
is_taken Bltu a b = nat_lt a b
is_taken Bgeu a b = not (nat_lt a b)

-- a jump, with pc + 4 in rd; to an address that isn't a multiple of four it halts, and rd isn't written
abbrev pub jump : List ℕ → ℕ → ℕ → ℕ → Effect
jump regs rd pc target = if target % 4 == 0 then Next (with_reg regs rd (next_pc pc)) target else Stop (JumpMisaligned target)

-- an access: first its address must be a multiple of its width, then below the memory size
abbrev pub asks : ℕ → Access → Effect
asks memory access =
    if access.address % width_of access.op == 0
    then (if nat_lt access.address memory then Memory access else Stop (Range access.address))
    else Stop (Misaligned access.address)

abbrev pub access : AccessOp → ℕ → ℕ → ℕ → Access
access op rd address operand = record { op = op; rd = rd; address = address; operand = operand }

-- the effect of an instruction, from the registers, the pc and the memory size: computations (section 2.4), jumps and
-- branches (2.5), loads and stores (2.6), fences, which change nothing here (2.7), environment calls and breakpoints (2.8),
-- AMOs, whose operand is rs2's value before rd is written (8.4). The target of JALR has its bit 0 cleared; SLTIU compares
-- with the sign-extended immediate as an unsigned number
abbrev pub effect_of : Instr → List ℕ → ℕ → ℕ → Effect
effect_of (Lui rd imm) regs pc memory = Next (with_reg regs rd (4096 * imm)) (next_pc pc)
effect_of (Auipc rd imm) regs pc memory = Next (with_reg regs rd (wrapped (pc + 4096 * imm))) (next_pc pc)
effect_of (Jal rd offset) regs pc memory = jump regs rd pc (plus_signed pc offset)
effect_of (Jalr rd rs1 imm) regs pc memory = jump regs rd pc (plus_signed (reg_of regs rs1) imm / 2 * 2)
effect_of (Branch op rs1 rs2 offset) regs pc memory =
    if is_taken op (reg_of regs rs1) (reg_of regs rs2) then jump regs 0 pc (plus_signed pc offset) else Next regs (next_pc pc)
effect_of (Load op rd rs1 imm) regs pc memory = asks memory (access (LoadAccess op) rd (plus_signed (reg_of regs rs1) imm) 0)
effect_of (Store op rs1 rs2 imm) regs pc memory = asks memory (access (StoreAccess op) 0 (plus_signed (reg_of regs rs1) imm) (reg_of regs rs2))
effect_of (OpImm op rd rs1 imm) regs pc memory = Next (with_reg regs rd (op_result (reg_op_of op) (reg_of regs rs1) (word_of imm))) (next_pc pc)
effect_of (Op op rd rs1 rs2) regs pc memory = Next (with_reg regs rd (op_result op (reg_of regs rs1) (reg_of regs rs2))) (next_pc pc)
effect_of (Amo op rd rs1 rs2 aq rl) regs pc memory = asks memory (access (AmoAccess op) rd (reg_of regs rs1) (reg_of regs rs2))
effect_of (Fence word) regs pc memory = Next regs (next_pc pc)
effect_of Ecall regs pc memory = Stop (Exit (reg_of regs 10))
effect_of Ebreak regs pc memory = Stop Break
