use Rattle.std.proofs.Common.{pos, false, refl, arith}
use lib.IntN.{negsuc}
use Rattle.pmsi_model.specs.declared.instr.Instr.TheVariants.{Load, Store, Amo}
use Rattle.pmsi_model.specs.declared.instr.LoadOp.TheVariants.{Lw}
use Rattle.pmsi_model.specs.declared.instr.StoreOp.TheVariants.{Sb}
use Rattle.pmsi_model.specs.declared.instr.AmoOp.TheVariants.{Amoswap}
use Rattle.rv_exec.proofs.Rows.{has_row}
use Rattle.rv_exec.proofs.tests.asks_for_accesses.Goals as goal

pub executed-both-requires : goal.executed-both-requires
executed-both-requires g c = has_row 0x0020a103 (Load Lw c.new-x2.result c.new-x1.result (pos 2)) (omega arith) (rw (c.new-x2.ensures, c.new-x1.ensures) refl)

pub executed-out-requires : goal.executed-out-requires
executed-out-requires g c = has_row 0x0000a103 (Load Lw c.new-x2.result c.new-x1.result (pos 0)) (omega arith) (rw (c.new-x2.ensures, c.new-x1.ensures) refl)

pub executed-last-requires : goal.executed-last-requires
executed-last-requires g c = has_row 0xfe208fa3 (Store Sb c.new-x1.result c.new-x2.result (negsuc 0)) (omega arith) (rw (c.new-x1.ensures, c.new-x2.ensures) refl)

pub executed-swap-requires : goal.executed-swap-requires
executed-swap-requires g c = has_row 0x0820212f (Amo Amoswap c.new-x2.result c.new-x0.result c.new-x2.result false false) (omega arith) (rw (c.new-x2.ensures, c.new-x0.ensures) refl)
