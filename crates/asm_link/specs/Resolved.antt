-- Ranges of instructions' numbers, and what each instruction's registers keep to.
use Rattle.std.specs.Prelude.{◌<◌, ℤ, Bool, true}
use Rattle.pmsi_model.specs.declared.instr.Instr.{Instr}
use Rattle.pmsi_model.specs.declared.instr.Instr.TheVariants.{Lui, Auipc, Jal, Jalr, Branch, Load, Store, OpImm, Op, Amo, Fence, Ecall, Ebreak}
use Rattle.asm_parse.specs.Mnemonics.{Item, Known, Numbered, Distant}

-- whether a value is in the range of an item's number; a target is in no range of its own
abbrev pub fits_item : Item → ℤ → Bool
fits_item (Known code) n = true
fits_item (Numbered expr at fits gives) n = fits n
fits_item (Distant expr fits gives) n = true

-- the numbers of the registers are below 32
abbrev pub AreRegs : Instr → Type 0
AreRegs (Lui rd imm) = rd < 32
AreRegs (Auipc rd imm) = rd < 32
AreRegs (Jal rd offset) = rd < 32
AreRegs (Jalr rd rs1 imm) = (rd < 32) × (rs1 < 32)
AreRegs (Branch op rs1 rs2 offset) = (rs1 < 32) × (rs2 < 32)
AreRegs (Load op rd rs1 imm) = (rd < 32) × (rs1 < 32)
AreRegs (Store op rs1 rs2 imm) = (rs1 < 32) × (rs2 < 32)
AreRegs (OpImm op rd rs1 imm) = (rd < 32) × (rs1 < 32)
AreRegs (Op op rd rs1 rs2) = (rd < 32) × (rs1 < 32) × (rs2 < 32)
AreRegs (Amo op rd rs1 rs2 aq rl) = (rd < 32) × (rs1 < 32) × (rs2 < 32)
AreRegs (Fence word) = Unit {0}
AreRegs Ecall = Unit {0}
AreRegs Ebreak = Unit {0}
