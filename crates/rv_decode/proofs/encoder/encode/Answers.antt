use Rattle.std.proofs.Common.{w32, SFits, refl, rules}
use Rattle.std.proofs.lemmas.Int.{to_z-of_z}
use Rattle.rv_decode.proofs.Encoded.{encoded}
use Rattle.rv_decode.proofs.encoder.encode.Goals as goal

pub returns-in-Lui : goal.returns-in-Lui
returns-in-Lui c = encoded _ _ _ c.requires c.in-Lui.is c.u_type.ensures

pub returns-in-Auipc : goal.returns-in-Auipc
returns-in-Auipc c = encoded _ _ _ c.requires c.in-Auipc.is c.u_type-in-Auipc.ensures

pub returns-in-Jal : goal.returns-in-Jal
returns-in-Jal c =
    let fits : SFits w32 c.in-Jal.offset = search rules in
    encoded _ _ _ c.requires c.in-Jal.is (simp to_z-of_z at c.j_type.ensures)

pub returns-in-Branch : goal.returns-in-Branch
returns-in-Branch c =
    let fits : SFits w32 c.in-Branch.offset = search rules in
    encoded _ _ _ c.requires c.in-Branch.is (rw c.branch_funct3.ensures at (simp to_z-of_z at c.b_type.ensures))

pub returns-in-Jalr : goal.returns-in-Jalr
returns-in-Jalr c =
    let fits : SFits w32 c.in-Jalr.imm = search rules in
    encoded _ _ _ c.requires c.in-Jalr.is (simp to_z-of_z at c.i_type.ensures)

pub returns-in-Load : goal.returns-in-Load
returns-in-Load c =
    let fits : SFits w32 c.in-Load.imm = search rules in
    encoded _ _ _ c.requires c.in-Load.is (rw c.load_funct3.ensures at (simp to_z-of_z at c.i_type-in-Load.ensures))

pub returns-in-Store : goal.returns-in-Store
returns-in-Store c =
    let fits : SFits w32 c.in-Store.imm = search rules in
    encoded _ _ _ c.requires c.in-Store.is (rw c.store_funct3.ensures at (simp to_z-of_z at c.s_type.ensures))

pub returns-in-OpImm : goal.returns-in-OpImm
returns-in-OpImm c =
    let fits : SFits w32 c.in-OpImm.imm = search rules in
    let field_fits : SFits w32 c.imm_field.result = search rules in
    encoded _ _ _ c.requires c.in-OpImm.is
    (rw (c.imm_funct3.ensures, (simp to_z-of_z at c.imm_field.ensures)) at (simp to_z-of_z at c.i_type-in-OpImm.ensures))

pub returns-in-Op : goal.returns-in-Op
returns-in-Op c = encoded _ _ _ c.requires c.in-Op.is (rw (c.op_funct7.ensures, c.op_funct3.ensures) at c.r_type.ensures)

pub returns-in-Amo : goal.returns-in-Amo
returns-in-Amo c = encoded _ _ _ c.requires c.in-Amo.is (rw c.amo_funct7.ensures at c.r_type-in-Amo.ensures)

pub returns-in-Fence : goal.returns-in-Fence
returns-in-Fence c = encoded _ _ _ c.requires c.in-Fence.is refl

pub returns-in-Ecall : goal.returns-in-Ecall
returns-in-Ecall c = encoded _ _ _ c.requires c.in-Ecall.is (rw (c.new.ensures, c.new-in-Ecall.ensures) at c.i_type-in-Ecall.ensures)

pub returns-in-Ebreak : goal.returns-in-Ebreak
returns-in-Ebreak c = encoded _ _ _ c.requires c.in-Ebreak.is (rw (c.new-in-Ebreak.ensures, c.new-in-Ebreak-2.ensures) at c.i_type-in-Ebreak.ensures)
