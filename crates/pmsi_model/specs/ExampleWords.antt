-- Worked examples: words as the GNU assembler writes them, one of each row of the instruction table at least, and the
-- instructions that they stand for; and words of other extensions, which stand for none.
use Rattle.std.specs.Prelude.{◌≡◌, pos, negsuc, true, false, Some, None}
use Rattle.pmsi_model.specs.declared.instr.Instr.TheVariants.{Lui, Auipc, Jal, Jalr, Branch, Load, Store, OpImm, Op, Amo, Fence, Ecall, Ebreak}
use Rattle.pmsi_model.specs.declared.instr.BranchOp.TheVariants.{Beq, Bne, Blt, Bge, Bltu, Bgeu}
use Rattle.pmsi_model.specs.declared.instr.LoadOp.TheVariants.{Lb, Lh, Lw, Lbu, Lhu}
use Rattle.pmsi_model.specs.declared.instr.StoreOp.TheVariants.{Sb, Sh, Sw}
use Rattle.pmsi_model.specs.declared.instr.ImmOp.TheVariants.{Addi, Slli, Slti, Sltiu, Xori, Srli, Srai, Ori, Andi}
use Rattle.pmsi_model.specs.declared.instr.RegOp.TheVariants.{Add, Sub, Sll, Slt, Sltu, Xor, Srl, Sra, Or, And}
use Rattle.pmsi_model.specs.declared.instr.AmoOp.TheVariants.{Amoadd, Amoswap, Amoxor, Amoor, Amoand, Amomin, Amomax, Amominu, Amomaxu}
use Rattle.pmsi_model.specs.Instruction.{instr_of}

pub record ReadsWords : Type 0 where
  -- lui x5, 0x12345
  pub lui : instr_of 0x123452b7 ≡ Some (Lui 5 0x12345)
  -- auipc x6, 0xfffff
  pub auipc : instr_of 0xfffff317 ≡ Some (Auipc 6 0xfffff)
  -- addi x5, x5, -1
  pub addi : instr_of 0xfff28293 ≡ Some (OpImm Addi 5 5 (negsuc 0))
  -- slli x5, x6, 31
  pub slli : instr_of 0x01f31293 ≡ Some (OpImm Slli 5 6 (pos 31))
  -- slti x5, x6, -2048
  pub slti : instr_of 0x80032293 ≡ Some (OpImm Slti 5 6 (negsuc 2047))
  -- sltiu x5, x6, 2047
  pub sltiu : instr_of 0x7ff33293 ≡ Some (OpImm Sltiu 5 6 (pos 2047))
  -- xori x5, x6, -1
  pub xori : instr_of 0xfff34293 ≡ Some (OpImm Xori 5 6 (negsuc 0))
  -- srli x5, x6, 1
  pub srli : instr_of 0x00135293 ≡ Some (OpImm Srli 5 6 (pos 1))
  -- srai x5, x6, 31
  pub srai : instr_of 0x41f35293 ≡ Some (OpImm Srai 5 6 (pos 31))
  -- ori x31, x16, 1
  pub ori : instr_of 0x00186f93 ≡ Some (OpImm Ori 31 16 (pos 1))
  -- andi x5, x6, 255
  pub andi : instr_of 0x0ff37293 ≡ Some (OpImm Andi 5 6 (pos 255))
  -- add x7, x5, x6
  pub add : instr_of 0x006283b3 ≡ Some (Op Add 7 5 6)
  -- sub x7, x5, x6
  pub sub : instr_of 0x406283b3 ≡ Some (Op Sub 7 5 6)
  -- sll x7, x5, x6
  pub sll : instr_of 0x006293b3 ≡ Some (Op Sll 7 5 6)
  -- slt x7, x5, x6
  pub slt : instr_of 0x0062a3b3 ≡ Some (Op Slt 7 5 6)
  -- sltu x7, x5, x6
  pub sltu : instr_of 0x0062b3b3 ≡ Some (Op Sltu 7 5 6)
  -- xor x7, x5, x6
  pub xor : instr_of 0x0062c3b3 ≡ Some (Op Xor 7 5 6)
  -- srl x7, x5, x6
  pub srl : instr_of 0x0062d3b3 ≡ Some (Op Srl 7 5 6)
  -- sra x7, x5, x6
  pub sra : instr_of 0x4062d3b3 ≡ Some (Op Sra 7 5 6)
  -- or x7, x5, x6
  pub or_ : instr_of 0x0062e3b3 ≡ Some (Op Or 7 5 6)
  -- and x7, x5, x6
  pub and_ : instr_of 0x0062f3b3 ≡ Some (Op And 7 5 6)
  -- jal x1, .+2726
  pub jal : instr_of 0x2a7000ef ≡ Some (Jal 1 (pos 2726))
  -- jal x0, .-252
  pub jal_back : instr_of 0xf05ff06f ≡ Some (Jal 0 (negsuc 251))
  -- jalr x1, -4(x5)
  pub jalr : instr_of 0xffc280e7 ≡ Some (Jalr 1 5 (negsuc 3))
  -- beq x0, x11, .+4094
  pub beq : instr_of 0x7eb00fe3 ≡ Some (Branch Beq 0 11 (pos 4094))
  -- bne x5, x6, .-4096
  pub bne : instr_of 0x80629063 ≡ Some (Branch Bne 5 6 (negsuc 4095))
  -- blt x5, x6, .+2
  pub blt : instr_of 0x0062c163 ≡ Some (Branch Blt 5 6 (pos 2))
  -- bge x5, x6, .+1364
  pub bge : instr_of 0x5462da63 ≡ Some (Branch Bge 5 6 (pos 1364))
  -- bltu x5, x6, .-2
  pub bltu : instr_of 0xfe62efe3 ≡ Some (Branch Bltu 5 6 (negsuc 1))
  -- bgeu x5, x6, .+2048
  pub bgeu : instr_of 0x0062f0e3 ≡ Some (Branch Bgeu 5 6 (pos 2048))
  -- lb x5, -2048(x6)
  pub lb : instr_of 0x80030283 ≡ Some (Load Lb 5 6 (negsuc 2047))
  -- lh x5, 2047(x6)
  pub lh : instr_of 0x7ff31283 ≡ Some (Load Lh 5 6 (pos 2047))
  -- lw x5, -4(x6)
  pub lw : instr_of 0xffc32283 ≡ Some (Load Lw 5 6 (negsuc 3))
  -- lbu x5, 0(x6)
  pub lbu : instr_of 0x00034283 ≡ Some (Load Lbu 5 6 (pos 0))
  -- lhu x5, 6(x6)
  pub lhu : instr_of 0x00635283 ≡ Some (Load Lhu 5 6 (pos 6))
  -- sb x5, -1(x6)
  pub sb : instr_of 0xfe530fa3 ≡ Some (Store Sb 6 5 (negsuc 0))
  -- sh x5, 34(x6)
  pub sh : instr_of 0x02531123 ≡ Some (Store Sh 6 5 (pos 34))
  -- sw x5, -4(x6)
  pub sw : instr_of 0xfe532e23 ≡ Some (Store Sw 6 5 (negsuc 3))
  -- fence rw, rw
  pub fence : instr_of 0x0330000f ≡ Some (Fence 0x0330000f)
  -- fence.tso
  pub fence_tso : instr_of 0x8330000f ≡ Some (Fence 0x8330000f)
  -- ecall
  pub ecall : instr_of 0x00000073 ≡ Some Ecall
  -- ebreak
  pub ebreak : instr_of 0x00100073 ≡ Some Ebreak
  -- amoadd.w x5, x6, (x7)
  pub amoadd : instr_of 0x0063a2af ≡ Some (Amo Amoadd 5 7 6 false false)
  -- amoswap.w.aqrl x5, x5, (x0)
  pub amoswap : instr_of 0x0e5022af ≡ Some (Amo Amoswap 5 0 5 true true)
  -- amoxor.w x5, x6, (x7)
  pub amoxor : instr_of 0x2063a2af ≡ Some (Amo Amoxor 5 7 6 false false)
  -- amoor.w x5, x6, (x7)
  pub amoor : instr_of 0x4063a2af ≡ Some (Amo Amoor 5 7 6 false false)
  -- amoand.w x5, x6, (x7)
  pub amoand : instr_of 0x6063a2af ≡ Some (Amo Amoand 5 7 6 false false)
  -- amomin.w x5, x6, (x7)
  pub amomin : instr_of 0x8063a2af ≡ Some (Amo Amomin 5 7 6 false false)
  -- amomax.w x5, x6, (x7)
  pub amomax : instr_of 0xa063a2af ≡ Some (Amo Amomax 5 7 6 false false)
  -- amominu.w.aq x5, x6, (x7)
  pub amominu : instr_of 0xc463a2af ≡ Some (Amo Amominu 5 7 6 true false)
  -- amomaxu.w.rl x5, x6, (x7)
  pub amomaxu : instr_of 0xe263a2af ≡ Some (Amo Amomaxu 5 7 6 false true)
  pub no_word : instr_of 0x00000000 ≡ None
  pub all_ones : instr_of 0xffffffff ≡ None
  -- fence.i
  pub fence_i : instr_of 0x0000100f ≡ None
  -- lr.w x5, (x6)
  pub lr : instr_of 0x100322af ≡ None
  -- sc.w x5, x6, (x7)
  pub sc : instr_of 0x1863a2af ≡ None
  -- mul x5, x6, x7
  pub mul : instr_of 0x027302b3 ≡ None
  -- csrrw x5, mstatus, x6
  pub csrrw : instr_of 0x300312f3 ≡ None
  -- mret
  pub mret : instr_of 0x30200073 ≡ None
  -- ld x5, 0(x6), of RV64I
  pub ld : instr_of 0x00033283 ≡ None
  -- slli x5, x6, 32, of RV64I
  pub slli_32 : instr_of 0x02031293 ≡ None
  -- a branch with funct3 010
  pub no_branch : instr_of 0x00002063 ≡ None
  -- amoadd.d x5, x6, (x7), of RV64A
  pub amoadd_d : instr_of 0x0063b2af ≡ None
  -- ecall with rd 1
  pub ecall_rd : instr_of 0x000000f3 ≡ None
