-- The text of an instruction: its name, and after a space its operands. It ends with no newline.
use Rattle.std.specs.Prelude.{ℕ, ℤ, pos, ◌+ℤ◌, List, [], ◌∷◌, ◌++◌, codes, decimal, ◌==◌, if◌then◌else◌}
use Rattle.std.specs.Fmt.{signed_decimal}
use Rattle.pmsi_model.specs.declared.instr.Instr.{Instr}
use Rattle.pmsi_model.specs.declared.instr.Instr.TheVariants.{Lui, Auipc, Jal, Jalr, Branch, Load, Store, OpImm, Op, Amo, Fence, Ecall, Ebreak}
use Rattle.pmsi_model.specs.Lines.{hex_word}
use Rattle.asm_print.specs.Names.{branch_name, load_name, store_name, imm_name, op_name, amo_name, ordering_suffix}
use Rattle.asm_print.specs.Operands.{register_text, direct_text, offset_text, joined}

-- a name and its operands
abbrev pub spelled : List ℕ → List (List ℕ) → List ℕ
spelled name operands = name ++ codes " " ++ joined operands

-- a word that is given as a number
abbrev pub word_text : ℕ → List ℕ
word_text word = codes ".word " ++ hex_word word

-- the target of a jump or branch at pc: the sum doesn't wrap, so it can be below 0 or above the greatest address
abbrev pub target_text : ℕ → ℤ → List ℕ
target_text pc distance = signed_decimal (pos pc +ℤ distance)

-- the one fence that has a text of its own: all accesses before it, and then all after it
abbrev pub fence_text : ℕ → List ℕ
fence_text word = if word == 0x0ff0000f then codes "fence" else word_text word

-- the text of an instruction at pc; a store names the stored register first, an AMO the source before the address
unfoldable pub instr_text : Instr → ℕ → List ℕ
instr_text (Lui rd imm) pc = spelled (codes "lui") (register_text rd ∷ decimal imm ∷ [])
instr_text (Auipc rd imm) pc = spelled (codes "auipc") (register_text rd ∷ decimal imm ∷ [])
instr_text (Jal rd distance) pc = spelled (codes "jal") (register_text rd ∷ target_text pc distance ∷ [])
instr_text (Jalr rd rs1 imm) pc = spelled (codes "jalr") (register_text rd ∷ offset_text imm rs1 ∷ [])
instr_text (Branch op rs1 rs2 distance) pc = spelled (branch_name op) (register_text rs1 ∷ register_text rs2 ∷ target_text pc distance ∷ [])
instr_text (Load op rd rs1 imm) pc = spelled (load_name op) (register_text rd ∷ offset_text imm rs1 ∷ [])
instr_text (Store op rs1 rs2 imm) pc = spelled (store_name op) (register_text rs2 ∷ offset_text imm rs1 ∷ [])
instr_text (OpImm op rd rs1 imm) pc = spelled (imm_name op) (register_text rd ∷ register_text rs1 ∷ signed_decimal imm ∷ [])
instr_text (Op op rd rs1 rs2) pc = spelled (op_name op) (register_text rd ∷ register_text rs1 ∷ register_text rs2 ∷ [])
instr_text (Amo op rd rs1 rs2 aq rl) pc = spelled (amo_name op ++ ordering_suffix aq rl) (register_text rd ∷ register_text rs2 ∷ direct_text rs1 ∷ [])
instr_text (Fence word) pc = fence_text word
instr_text Ecall pc = codes "ecall"
instr_text Ebreak pc = codes "ebreak"
