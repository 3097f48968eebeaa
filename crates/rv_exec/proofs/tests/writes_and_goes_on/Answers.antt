use Rattle.std.proofs.Common.{refl, arith}
use lib.IntN.{negsuc}
use Rattle.pmsi_model.specs.declared.instr.Instr.TheVariants.{Lui, Auipc, OpImm, Op}
use Rattle.pmsi_model.specs.declared.instr.ImmOp.TheVariants.{Sltiu}
use Rattle.pmsi_model.specs.declared.instr.RegOp.TheVariants.{Add}
use Rattle.rv_exec.proofs.Rows.{has_row}
use Rattle.rv_exec.proofs.tests.writes_and_goes_on.Goals as goal

pub executed-upper-requires : goal.executed-upper-requires
executed-upper-requires g c = has_row 0xfffff137 (Lui c.new-x2.result 0xfffff) (omega arith) (rw c.new-x2.ensures refl)

pub executed-added-requires : goal.executed-added-requires
executed-added-requires g c = has_row 0xfffff117 (Auipc c.new-x2.result 0xfffff) (omega arith) (rw c.new-x2.ensures refl)

pub executed-below-requires : goal.executed-below-requires
executed-below-requires g c = has_row 0xfff0b113 (OpImm Sltiu c.new-x2.result c.new-x1.result (negsuc 0)) (omega arith) (rw (c.new-x2.ensures, c.new-x1.ensures) refl)

pub executed-lost-requires : goal.executed-lost-requires
executed-lost-requires g c = has_row 0x00208033 (Op Add c.new-x0.result c.new-x1.result c.new-x2.result) (omega arith) (rw (c.new-x0.ensures, c.new-x1.ensures, c.new-x2.ensures) refl)
