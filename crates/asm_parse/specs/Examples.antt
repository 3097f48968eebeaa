-- Worked examples of assembly: sources, and the codes, bytes and faults that they give.
use Rattle.std.specs.Prelude.{◌≡◌, ℕ, List, [], ◌∷◌, map, codes, Option, Some, None, true, pos, negsuc}
use Rattle.pmsi_model.specs.declared.instr.Instr.{Instr}
use Rattle.pmsi_model.specs.declared.instr.Instr.TheVariants.{Lui, Jal, Jalr, Branch, Load, Store, OpImm, Amo, Fence, Ecall}
use Rattle.pmsi_model.specs.declared.instr.BranchOp.TheVariants.{Blt, Bge}
use Rattle.pmsi_model.specs.declared.instr.LoadOp.TheVariants.{Lw}
use Rattle.pmsi_model.specs.declared.instr.StoreOp.TheVariants.{Sw}
use Rattle.pmsi_model.specs.declared.instr.ImmOp.TheVariants.{Addi}
use Rattle.pmsi_model.specs.declared.instr.AmoOp.TheVariants.{Amoadd}
use Rattle.asm_parse.specs.declared.fault.AsmCause.{AsmCause}
use Rattle.asm_parse.specs.declared.fault.AsmCause.TheVariants as cause
use Rattle.asm_parse.specs.declared.fault.AsmFault.{AsmFault}
use Rattle.asm_parse.specs.declared.fault.AsmFault.TheVariants.{At}
use Rattle.asm_parse.specs.Mnemonics.{Code, Instruction, Raw}
use Rattle.asm_parse.specs.Assembly.{asm_fault, text_of, data_of, IsAssembled}

abbrev pub instrs : List Instr → List Code
instrs is = map (λ i. Instruction i) is

abbrev pub at : ℕ → AsmCause → Option AsmFault
at line c = Some (At line c)

pub record ReadsInstructions : Type 0 where
  pub adds : text_of (codes "addi x5, x0, 7\necall\n") ≡ instrs (OpImm Addi 5 0 (pos 7) ∷ Ecall ∷ [])
  pub li_12_bits : text_of (codes "li x5, 2047") ≡ instrs (OpImm Addi 5 0 (pos 2047) ∷ [])
  pub li_carries : text_of (codes "li x5, 2048") ≡ instrs (Lui 5 1 ∷ OpImm Addi 5 5 (negsuc 2047) ∷ [])
  pub li_high_only : text_of (codes "li x5, 4096") ≡ instrs (Lui 5 1 ∷ [])
  pub li_both : text_of (codes "li x5, 0x12345678") ≡ instrs (Lui 5 0x12345 ∷ OpImm Addi 5 5 (pos 0x678) ∷ [])
  pub li_minus_one : text_of (codes "li x5, 0xffffffff") ≡ instrs (OpImm Addi 5 0 (negsuc 0) ∷ [])
  pub li_least : text_of (codes "li x5, 0xfffff800") ≡ instrs (OpImm Addi 5 0 (negsuc 2047) ∷ [])
  pub li_name : text_of (codes ".equ a, 3\nli x5, a + 4095\n") ≡ instrs (Lui 5 1 ∷ OpImm Addi 5 5 (pos 2) ∷ [])
  pub fence : text_of (codes "fence rw, rw") ≡ instrs (Fence 0x0330000f ∷ [])
  pub fence_all : text_of (codes "fence\nfence ior, w") ≡ instrs (Fence 0x0ff0000f ∷ Fence 0x0e10000f ∷ [])
  pub named_as_register : text_of (codes "x5: nop\njal x5\n") ≡ instrs (OpImm Addi 0 0 (pos 0) ∷ Jal 1 (negsuc 3) ∷ [])
  pub loads_and_stores : text_of (codes "lw t0, -4(sp)\nsw a0, (x6)\n") ≡ instrs (Load Lw 5 2 (negsuc 3) ∷ Store Sw 6 10 (pos 0) ∷ [])
  pub high_and_low : text_of (codes "lui x5, %hi(0x12345fff)\naddi x5, x5, %lo(0x12345fff)") ≡ instrs (Lui 5 0x12346 ∷ OpImm Addi 5 5 (negsuc 0) ∷ [])
  -- sums below -2^32 wrap too
  pub low_of_a_sum : text_of (codes ".equ a, -2\naddi x5, x0, %lo(a - 4294967295)") ≡ instrs (OpImm Addi 5 0 (negsuc 0) ∷ [])
  pub high_of_a_sum : text_of (codes ".equ a, -2147483648\nlui x5, %hi(a - 4294967295)") ≡ instrs (Lui 5 0x80000 ∷ [])
  pub la : text_of (codes "a: la x5, a + 4") ≡ instrs (Lui 5 0 ∷ OpImm Addi 5 5 (pos 4) ∷ [])
  pub amo : text_of (codes "amoadd.w.aqrl x5, x6, 0(x7)") ≡ instrs (Amo Amoadd 5 7 6 true true ∷ [])
  pub jumps : text_of (codes "jalr x1, x2, 8\njr x3\nret\nj 0") ≡ instrs (Jalr 1 2 (pos 8) ∷ Jalr 0 3 (pos 0) ∷ Jalr 0 1 (pos 0) ∷ Jal 0 (negsuc 11) ∷ [])
  pub branches : text_of (codes "ble x5, x6, 8\nbgtz x7, 0") ≡ instrs (Branch Bge 6 5 (pos 8) ∷ Branch Blt 0 7 (negsuc 3) ∷ [])
  pub word : text_of (codes ".word -1") ≡ Raw 4 0xffffffff ∷ []

pub record ReadsData : Type 0 where
  pub words : data_of (codes ".data\n.word 0x11223344, 1\n.half 0x5566\n") ≡ (0, 0x44 ∷ 0x33 ∷ 0x22 ∷ 0x11 ∷ 1 ∷ 0 ∷ 0 ∷ 0 ∷ []) ∷ (8, 0x66 ∷ 0x55 ∷ []) ∷ []
  pub names : data_of (codes ".equ a, 3\n.data\n.byte a - -5, b\n.balign 8\nb: .zero 2\n") ≡ (0, 8 ∷ 8 ∷ []) ∷ (2, []) ∷ (8, 0 ∷ 0 ∷ []) ∷ []
  pub moves : data_of (codes ".data\n.org 16\n.byte -1\n.text\nnop\n.data\n.byte 2") ≡ (0, []) ∷ (16, 255 ∷ []) ∷ (17, []) ∷ (17, 2 ∷ []) ∷ []
  pub limit : asm_fault (codes ".data\n.org 1048576\n.zero 0\n") ≡ None

pub record FindsFaults : Type 0 where
  pub character : asm_fault (codes "nop $") ≡ at 1 (cause.Character 5)
  pub word : asm_fault (codes "bad") ≡ at 1 (cause.Word 1)
  pub no_word : asm_fault (codes "a: 5") ≡ at 1 (cause.Word 4)
  pub character_first : asm_fault (codes "bad $") ≡ at 1 (cause.Character 5)
  pub comma : asm_fault (codes "jal foo, 8") ≡ at 1 (cause.Operand 8)
  pub line_end : asm_fault (codes "jalr x1, x2") ≡ at 1 (cause.Operand 12)
  pub no_parenthesis : asm_fault (codes "lw x5, x6 # six") ≡ at 1 (cause.Operand 16)
  pub no_register : asm_fault (codes "jalr foo") ≡ at 1 (cause.Operand 6)
  pub more : asm_fault (codes "nop nop") ≡ at 1 (cause.Operand 5)
  pub zero_alone : asm_fault (codes "amoadd.w x5, x6, 00(x7)") ≡ at 1 (cause.Operand 18)
  pub fence_order : asm_fault (codes "fence rwo, w") ≡ at 1 (cause.Operand 7)
  pub later_equ : asm_fault (codes "li x5, a\n.equ a, 3\n") ≡ at 1 (cause.Operand 8)
  pub data_in_text : asm_fault (codes "  .byte x, $9") ≡ at 1 (cause.Character 12)
  pub data_only : asm_fault (codes "  .byte x y") ≡ at 1 (cause.Operand 3)
  pub text_in_data : asm_fault (codes ".data\nnop nop\n") ≡ at 2 (cause.Operand 1)
  pub number : asm_fault (codes "addi x5, x0, 2048") ≡ at 1 (cause.Number 14)
  pub minus : asm_fault (codes "addi x5, x0, - 2049") ≡ at 1 (cause.Number 14)
  pub high_part : asm_fault (codes "addi x5, x0, %hi(0x12345678)") ≡ at 1 (cause.Number 14)
  pub misspelt : asm_fault (codes "addi x5, x0, %lo(12ab)") ≡ at 1 (cause.Number 18)
  pub misspelt_later : asm_fault (codes "a: la x5, a + 12ab") ≡ at 1 (cause.Number 11)
  pub twice : asm_fault (codes "a: nop\na: nop\n") ≡ at 2 (cause.Twice 1)
  pub twice_on_a_line : asm_fault (codes "a: a: nop\n") ≡ at 1 (cause.Twice 4)
  pub overlap : asm_fault (codes ".data\n.word 1\n.org 2\n.byte 1\n") ≡ at 4 (cause.Overlap 2)
  pub range : asm_fault (codes ".data\n.org 1048576\n.byte 1\n") ≡ at 3 (cause.Range 1048576)
  pub org_range : asm_fault (codes ".data\n.org 1048577\n") ≡ at 2 (cause.Range 1048577)
  pub unknown : asm_fault (codes "j nowhere") ≡ at 1 (cause.Unknown 3)
  pub first_round_first : asm_fault (codes "j nowhere\nbad\n") ≡ at 2 (cause.Word 1)
  pub unknown_before_number : asm_fault (codes "a: .word a + 4294967295, b") ≡ at 1 (cause.Unknown 26)
  pub sum_too_wide : asm_fault (codes "nop\na: .word a + 4294967295") ≡ at 2 (cause.Number 10)
  pub unknown_in_a_part : asm_fault (codes "lui x5, %hi(q)") ≡ at 1 (cause.Unknown 13)
  pub shift : asm_fault (codes "slli x5, x5, 32") ≡ at 1 (cause.Number 14)
  pub alignment : asm_fault (codes ".data\n.balign 3") ≡ at 2 (cause.Number 9)
  pub part_in_a_word : asm_fault (codes ".word %lo(4)") ≡ at 1 (cause.Operand 7)
  pub first_round_of_a_later_line : asm_fault (codes "j nowhere\na: a: nop") ≡ at 2 (cause.Twice 4)
  pub reach : asm_fault (codes "jal x0, 3") ≡ at 1 (cause.Reach (pos 3))
  pub far : asm_fault (codes "j 4294967295") ≡ at 1 (cause.Reach (pos 4294967295))
  pub too_far : asm_fault (codes "beq x0, x0, 4096") ≡ at 1 (cause.Reach (pos 4096))
  pub return : asm_fault (codes "nop\r\nnop\r") ≡ at 2 (cause.Character 4)

-- a source and its image
pub record Assembles : Type 0 where
  pub adds : IsAssembled (codes "addi x5, x0, 7\necall\n") (record { text = 0x00700293 ∷ 0x00000073 ∷ []; pieces = [] })
