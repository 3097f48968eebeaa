-- An instruction that is ready has a row.
use Rattle.std.proofs.Common.{◌≡◌, ℕ, ◌-◌, ◌%◌, ◌<◌, ◌≤◌, true, arith}
use Rattle.std.specs.Prelude.{◌==◌, ℤ, pos, negsuc}
use Rattle.pmsi_model.specs.declared.instr.Instr.{Instr}
use Rattle.pmsi_model.specs.declared.instr.Instr.TheVariants.{Lui, Auipc, Jal, Jalr, Branch, Load, Store, OpImm, Op, Amo, Fence, Ecall, Ebreak}
use Rattle.pmsi_model.specs.declared.instr.ImmOp.TheVariants.{Addi, Slli, Slti, Sltiu, Xori, Srli, Srai, Ori, Andi}
use Rattle.pmsi_model.specs.Instruction.{HasRow}
use Rattle.pmsi_model.specs.Words.{word_of}
use Rattle.asm_parse.specs.Mnemonics.{reaches}
use Rattle.asm_parse.specs.Items.{is_ready}
use Rattle.rv_decode.specs.Ranges.{IsInRange}
use Rattle.rv_decode.proofs.Exports.{has_row}
use Rattle.asm_link.specs.Resolved.{AreRegs}

-- an even distance within reach is an even word
even_word : (most : ℕ) (n : ℤ) → most ≤ 1048576 → reaches most n ≡ true → word_of n % 2 ≡ 0
even_word most (pos n) small reach = grind (arith, reach)
even_word most (negsuc n) small reach =
    let below : n < 4294967296 = grind (arith, reach) in
    let same : n % 4294967296 ≡ n = omega (arith, below) in
    let even : ((4294967295 - n % 4294967296) % 2 == 0) ≡ true = grind (arith, reach) in
    grind (arith, rw same at even)

pub in_range : (instr : Instr) → AreRegs instr → is_ready instr ≡ true → IsInRange instr
in_range (Lui rd imm) regs ready = (regs, grind (arith, ready))
in_range (Auipc rd imm) regs ready = (regs, grind (arith, ready))
in_range (Jal rd offset) regs ready = (regs, ((grind (arith, ready), grind (arith, ready)), even_word 1048576 offset (omega arith) ready))
in_range (Jalr rd rs1 imm) regs ready = (regs.0, regs.1, (grind (arith, ready), grind (arith, ready)))
in_range (Branch op rs1 rs2 offset) regs ready = (regs.0, regs.1, ((grind (arith, ready), grind (arith, ready)), even_word 4096 offset (omega arith) ready))
in_range (Load op rd rs1 imm) regs ready = (regs.0, regs.1, (grind (arith, ready), grind (arith, ready)))
in_range (Store op rs1 rs2 imm) regs ready = (regs.0, regs.1, (grind (arith, ready), grind (arith, ready)))
in_range (OpImm Addi rd rs1 imm) regs ready = (regs.0, regs.1, (grind (arith, ready), grind (arith, ready)))
in_range (OpImm Slli rd rs1 imm) regs ready = (regs.0, regs.1, (grind (arith, ready), grind (arith, ready)))
in_range (OpImm Slti rd rs1 imm) regs ready = (regs.0, regs.1, (grind (arith, ready), grind (arith, ready)))
in_range (OpImm Sltiu rd rs1 imm) regs ready = (regs.0, regs.1, (grind (arith, ready), grind (arith, ready)))
in_range (OpImm Xori rd rs1 imm) regs ready = (regs.0, regs.1, (grind (arith, ready), grind (arith, ready)))
in_range (OpImm Srli rd rs1 imm) regs ready = (regs.0, regs.1, (grind (arith, ready), grind (arith, ready)))
in_range (OpImm Srai rd rs1 imm) regs ready = (regs.0, regs.1, (grind (arith, ready), grind (arith, ready)))
in_range (OpImm Ori rd rs1 imm) regs ready = (regs.0, regs.1, (grind (arith, ready), grind (arith, ready)))
in_range (OpImm Andi rd rs1 imm) regs ready = (regs.0, regs.1, (grind (arith, ready), grind (arith, ready)))
in_range (Op op rd rs1 rs2) regs ready = regs
in_range (Amo op rd rs1 rs2 aq rl) regs ready = regs
in_range (Fence word) regs ready = (grind (arith, ready), grind (arith, ready))
in_range Ecall regs ready = tt
in_range Ebreak regs ready = tt

pub ready_has_row : (instr : Instr) → AreRegs instr → is_ready instr ≡ true → HasRow instr
ready_has_row instr regs ready = has_row instr (in_range instr regs ready)
