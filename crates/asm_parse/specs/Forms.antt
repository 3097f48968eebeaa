-- The forms of the code's mnemonics. None but that of `li` asks for names, so contracts give the others no names.
use Rattle.std.specs.Prelude.{◌≡◌, ◌≢◌, ℕ, pos, neg_ℤ, Bool, true, false, List, [], ◌∷◌, ◌++◌, codes, if◌then◌else◌}
use Rattle.pmsi_model.specs.declared.instr.BranchOp.{BranchOp}
use Rattle.pmsi_model.specs.declared.instr.Instr.TheVariants.{Lui, Auipc, Jalr, Load, Store, OpImm, Op, Amo, Fence, Ecall, Ebreak}
use Rattle.pmsi_model.specs.declared.instr.ImmOp.TheVariants.{Addi, Xori, Sltiu}
use Rattle.pmsi_model.specs.Words.{word_of}
use Rattle.asm_parse.specs.declared.mnemonic.Access.{Access}
use Rattle.asm_parse.specs.declared.mnemonic.Access.TheVariants as access
use Rattle.asm_parse.specs.declared.mnemonic.Mnemonic.{Mnemonic}
use Rattle.asm_parse.specs.declared.mnemonic.Mnemonic.TheVariants as mnemonic
use Rattle.asm_parse.specs.declared.mnemonic.Order.{Order}
use Rattle.asm_parse.specs.declared.mnemonic.Order.TheVariants.{Given, Swapped}
use Rattle.asm_parse.specs.declared.mnemonic.Operation.{Operation}
use Rattle.asm_parse.specs.declared.mnemonic.Operation.TheVariants as operation
use Rattle.asm_parse.specs.Items.{op_takes}
use Rattle.asm_parse.specs.Mnemonics.{Form, no_operands, form_r, form_rr, form_rrr, form_ri, form_rri, form_rm, form_rrb, form_e, form_re, form_rre, form_rc, form_ff, ready, with_imm, is_imm_12, is_imm_20, jump_to, branch_to, fence_word, load_immediate, load_address}

-- ---- jumps

-- a jump that links in a register of its own
abbrev pub jal_form : Form
jal_form = form_re (λ rd target. jump_to rd target ∷ [])

abbrev pub jump_form : ℕ → Form
jump_form rd = form_e (λ target. jump_to rd target ∷ [])

-- a jump without a register of its own links in x1, or not at all
abbrev pub link_of : Bool → ℕ
link_of true = 1
link_of false = 0

abbrev pub jalr_at_form : Form
jalr_at_form = form_rm (λ rd imm rs1. with_imm is_imm_12 (Jalr rd rs1) imm ∷ [])

abbrev pub jalr_by_form : Form
jalr_by_form = form_rri (λ rd rs1 imm. with_imm is_imm_12 (Jalr rd rs1) imm ∷ [])

abbrev pub jump_register_form : ℕ → Form
jump_register_form rd = form_r (λ rs. ready (Jalr rd rs (pos 0)))

-- ---- branches

abbrev pub first_if : Bool → ℕ → ℕ → ℕ
first_if this a b = if this then a else b

abbrev pub is_swapped : Order → Bool
is_swapped Given = false
is_swapped Swapped = true

abbrev pub branch_form : BranchOp → Bool → Form
branch_form op swapped = form_rre (λ a b target. branch_to op (first_if swapped b a) (first_if swapped a b) target ∷ [])

abbrev pub branch_zero_form : BranchOp → Bool → Form
branch_zero_form op swapped = form_re (λ rs target. branch_to op (first_if swapped 0 rs) (first_if swapped rs 0) target ∷ [])

-- ---- the rest

abbrev pub access_form : Access → Form
access_form (access.Load op) = form_rm (λ rd imm rs1. with_imm is_imm_12 (Load op rd rs1) imm ∷ [])
access_form (access.Store op) = form_rm (λ rs2 imm rs1. with_imm is_imm_12 (Store op rs1 rs2) imm ∷ [])
access_form (access.Amo op aq rl) = form_rrb (λ rd rs2 rs1. ready (Amo op rd rs1 rs2 aq rl))

abbrev pub operation_form : Operation → Form
operation_form operation.Lui = form_ri (λ rd imm. with_imm is_imm_20 (λ n. Lui rd (word_of n)) imm ∷ [])
operation_form operation.Auipc = form_ri (λ rd imm. with_imm is_imm_20 (λ n. Auipc rd (word_of n)) imm ∷ [])
operation_form (operation.Imm op) = form_rri (λ rd rs1 imm. with_imm (op_takes op) (OpImm op rd rs1) imm ∷ [])
operation_form (operation.Reg op) = form_rrr (λ rd rs1 rs2. ready (Op op rd rs1 rs2))
operation_form operation.Mv = form_rr (λ rd rs. ready (OpImm Addi rd rs (pos 0)))
operation_form operation.Not = form_rr (λ rd rs. ready (OpImm Xori rd rs (neg_ℤ (pos 1))))
operation_form operation.Seqz = form_rr (λ rd rs. ready (OpImm Sltiu rd rs (pos 1)))
operation_form (operation.RegZero op) = form_rr (λ rd rs. ready (Op op rd rs 0))
operation_form (operation.ZeroReg op) = form_rr (λ rd rs. ready (Op op rd 0 rs))

abbrev pub fence_form : Form
fence_form = form_ff (λ before after. ready (Fence (fence_word before after)))

abbrev pub forms_of : Mnemonic → List Form
forms_of mnemonic.Jal = jal_form ∷ jump_form 1 ∷ []
forms_of mnemonic.Jalr = jalr_at_form ∷ jalr_by_form ∷ jump_register_form 1 ∷ []
forms_of (mnemonic.Jump links) = jump_form (link_of links) ∷ []
forms_of mnemonic.JumpRegister = jump_register_form 0 ∷ []
forms_of (mnemonic.Branch op order) = branch_form op (is_swapped order) ∷ []
forms_of (mnemonic.BranchZero op order) = branch_zero_form op (is_swapped order) ∷ []
forms_of (mnemonic.Access a) = access_form a ∷ []
forms_of (mnemonic.Operation o) = operation_form o ∷ []
forms_of mnemonic.Fence = no_operands (ready (Fence (fence_word 15 15))) ∷ fence_form ∷ []
forms_of mnemonic.Ecall = no_operands (ready Ecall) ∷ []
forms_of mnemonic.Ebreak = no_operands (ready Ebreak) ∷ []
forms_of mnemonic.Nop = no_operands (ready (OpImm Addi 0 0 (pos 0))) ∷ []
forms_of mnemonic.Ret = no_operands (ready (Jalr 0 1 (pos 0))) ∷ []
forms_of mnemonic.Li = form_rc load_immediate ∷ []
forms_of mnemonic.La = form_re load_address ∷ []

-- ---- names of AMOs

-- A name cut in front of its suffix, with the aq and rl of that. The suffix is the longest one that the name has.
abbrev pub IsCut : List ℕ → List ℕ → Bool → Bool → Type 0
IsCut name stem true true = name ≡ stem ++ codes ".aqrl"
IsCut name stem true false = name ≡ stem ++ codes ".aq"
IsCut name stem false true = name ≡ stem ++ codes ".rl"
IsCut name stem false false =
    (name ≡ stem) × ((front : List ℕ) → name ≢ front ++ codes ".aqrl") × ((front : List ℕ) → name ≢ front ++ codes ".aq")
    × ((front : List ℕ) → name ≢ front ++ codes ".rl")
