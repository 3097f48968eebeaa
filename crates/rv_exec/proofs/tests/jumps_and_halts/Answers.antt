use Rattle.std.proofs.Common.{pos, refl, arith}
use lib.IntN.{negsuc}
use Rattle.pmsi_model.specs.declared.instr.Instr.TheVariants.{Jal, Jalr, Branch, Ecall}
use Rattle.pmsi_model.specs.declared.instr.BranchOp.TheVariants.{Bltu}
use Rattle.rv_exec.proofs.Rows.{has_row}
use Rattle.rv_exec.proofs.tests.jumps_and_halts.Goals as goal

pub executed-back-requires : goal.executed-back-requires
executed-back-requires g c = has_row 0xffdff16f (Jal c.new-x2.result (negsuc 3)) (omega arith) (rw c.new-x2.ensures refl)

pub executed-far-requires : goal.executed-far-requires
executed-far-requires g c = has_row 0x001080e7 (Jalr c.new-x1.result c.new-x1.result (pos 1)) (omega arith) (rw c.new-x1.ensures refl)

pub executed-off-requires : goal.executed-off-requires
executed-off-requires g c = has_row 0x003080e7 (Jalr c.new-x1.result c.new-x1.result (pos 3)) (omega arith) (rw c.new-x1.ensures refl)

pub executed-taken-requires : goal.executed-taken-requires
executed-taken-requires g c = has_row 0x00116463 (Branch Bltu c.new-x2.result c.new-x1.result (pos 8)) (omega arith) (rw (c.new-x2.ensures, c.new-x1.ensures) refl)

pub executed-exit-requires : goal.executed-exit-requires
executed-exit-requires g c = has_row 0x00000073 Ecall (omega arith) refl
