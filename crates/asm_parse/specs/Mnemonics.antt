-- Instructions and pseudo-instructions: the forms of each, and the instructions that it stands for. Names of instructions
-- and operands are those of the RISC-V Unprivileged ISA, version 20191213. Pseudo-instructions are from its chapter 25; here
-- `call` is one jump, and `la` gives an absolute address.
use Rattle.std.specs.Prelude.{ℕ, ◌+◌, ◌-◌, ◌*◌, ◌/◌, ◌%◌, ◌^◌, ℤ, pos, negsuc, neg_ℤ, Bool, true, false, ◌&&◌, ◌==◌, if◌then◌else◌, nat_lt, List, [], ◌∷◌, ◌++◌, map, length, codes, Option, Some, None}
use Rattle.std.specs.List.{flat_map}
use Rattle.std.specs.Int.{w32, cast_signed}
use Rattle.pmsi_model.specs.declared.instr.Instr.{Instr}
use Rattle.pmsi_model.specs.declared.instr.Instr.TheVariants.{Lui, Auipc, Jal, Jalr, Branch, Load, Store, OpImm, Op, Amo, Fence, Ecall, Ebreak}
use Rattle.pmsi_model.specs.declared.instr.BranchOp.{BranchOp}
use Rattle.pmsi_model.specs.declared.instr.BranchOp.TheVariants.{Beq, Bne, Blt, Bge, Bltu, Bgeu}
use Rattle.pmsi_model.specs.declared.instr.LoadOp.{LoadOp}
use Rattle.pmsi_model.specs.declared.instr.LoadOp.TheVariants.{Lb, Lh, Lw, Lbu, Lhu}
use Rattle.pmsi_model.specs.declared.instr.StoreOp.{StoreOp}
use Rattle.pmsi_model.specs.declared.instr.StoreOp.TheVariants.{Sb, Sh, Sw}
use Rattle.pmsi_model.specs.declared.instr.ImmOp.{ImmOp}
use Rattle.pmsi_model.specs.declared.instr.ImmOp.TheVariants.{Addi, Slli, Slti, Sltiu, Xori, Srli, Srai, Ori, Andi}
use Rattle.pmsi_model.specs.declared.instr.RegOp.{RegOp}
use Rattle.pmsi_model.specs.declared.instr.RegOp.TheVariants.{Add, Sub, Sll, Slt, Sltu, Xor, Srl, Sra, Or, And}
use Rattle.pmsi_model.specs.declared.instr.AmoOp.{AmoOp}
use Rattle.pmsi_model.specs.declared.instr.AmoOp.TheVariants.{Amoadd, Amoswap, Amoxor, Amoor, Amoand, Amomin, Amomax, Amominu, Amomaxu}
use Rattle.pmsi_model.specs.Words.{word_of, signed, wrapped}
use Rattle.asm_operands.specs.declared.expr.Part.{Part}
use Rattle.asm_operands.specs.declared.expr.Part.TheVariants.{Whole, High, Low}
use Rattle.asm_operands.specs.Numbers.{is_between, is_number, value_in}
use Rattle.asm_operands.specs.Operands.{Lexeme, Took, Taken, Stuck, Expr, Imm, ends, take_r, take_rr, take_rrr, take_ri, take_rri, take_rm, take_rrb, take_e, take_re, take_rre, take_rc, take_ff}

-- ---- what a line puts into text or data

-- an instruction, or a number of so many bytes
pub data Code : Type 0 where
  Instruction : Instr → Code
  Raw : ℕ → ℕ → Code

-- it is known; or it comes from an expression, whose value is known once all names are and must fit, else the column that is
-- given is blamed (a misspelt number alone is blamed at its own); or from the distance to a target, which must be within reach
pub data Item : Type 0 where
  Known : Code → Item
  Numbered : Expr → ℕ → (ℤ → Bool) → (ℤ → Code) → Item
  Distant : Expr → (ℤ → Bool) → (ℤ → Code) → Item

-- ---- immediates

-- what is left of a number in 32 bits
abbrev pub in_32_bits : ℤ → ℕ
in_32_bits (pos n) = n % 2 ^ 32
in_32_bits (negsuc n) = (2 ^ 32 - 1) - n % 2 ^ 32

-- the high twenty and the low twelve bits of a number, the low ones as a signed number: 4096 * high + low is the number
-- again, in 32 bits
abbrev pub high_part : ℤ → ℕ
high_part n = wrapped (in_32_bits n + 2048) / 4096

abbrev pub low_part : ℤ → ℤ
low_part n = signed 12 (in_32_bits n % 4096)

abbrev pub part_of : Part → ℤ → ℤ
part_of Whole n = n
part_of High n = pos (high_part n)
part_of Low n = low_part n

abbrev pub is_imm_12 : ℤ → Bool
is_imm_12 n = is_between (neg_ℤ (pos 2048)) (pos 2047) n

abbrev pub is_imm_20 : ℤ → Bool
is_imm_20 n = is_between (pos 0) (pos 1048575) n

abbrev pub is_shift : ℤ → Bool
is_shift n = is_between (pos 0) (pos 31) n

-- an immediate in its range
abbrev pub with_imm : (ℤ → Bool) → (ℤ → Instr) → Imm → Item
with_imm fits make imm = Numbered imm.expr imm.column (λ n. fits (part_of imm.part n)) (λ n. Instruction (make (part_of imm.part n)))

-- even distances within reach
abbrev pub reaches : ℕ → ℤ → Bool
reaches most n = (in_32_bits n % 2 == 0) && is_between (neg_ℤ (pos most)) (pos (most - 2)) n

abbrev pub jump_to : ℕ → Expr → Item
jump_to rd target = Distant target (reaches 1048576) (λ n. Instruction (Jal rd n))

abbrev pub branch_to : BranchOp → ℕ → ℕ → Expr → Item
branch_to op rs1 rs2 target = Distant target (reaches 4096) (λ n. Instruction (Branch op rs1 rs2 n))

abbrev pub ready : Instr → List Item
ready instr = Known (Instruction instr) ∷ []

-- ---- forms

-- what a form takes, up to the line's end, with the names of `.equ` that stand before, and what it stands for
abbrev pub Form : Type 0
Form = List (List ℕ × ℤ) → List Lexeme → Took (List Item)

abbrev pub gives : {A : Type 0} → (A → List Item) → Took A → Took (List Item)
gives f (Taken a xs) = Taken (f a) xs
gives f (Stuck xs) = Stuck xs

abbrev pub no_operands : List Item → Form
no_operands items equs xs = ends items xs

abbrev pub form_r : (ℕ → List Item) → Form
form_r f equs xs = gives f (take_r xs)

abbrev pub form_rr : (ℕ → ℕ → List Item) → Form
form_rr f equs xs = gives (λ t. f t.0 t.1) (take_rr xs)

abbrev pub form_rrr : (ℕ → ℕ → ℕ → List Item) → Form
form_rrr f equs xs = gives (λ t. f t.0 t.1 t.2) (take_rrr xs)

abbrev pub form_ri : (ℕ → Imm → List Item) → Form
form_ri f equs xs = gives (λ t. f t.0 t.1) (take_ri xs)

abbrev pub form_rri : (ℕ → ℕ → Imm → List Item) → Form
form_rri f equs xs = gives (λ t. f t.0 t.1 t.2) (take_rri xs)

abbrev pub form_rm : (ℕ → Imm → ℕ → List Item) → Form
form_rm f equs xs = gives (λ t. f t.0 t.1 t.2) (take_rm xs)

abbrev pub form_rrb : (ℕ → ℕ → ℕ → List Item) → Form
form_rrb f equs xs = gives (λ t. f t.0 t.1 t.2) (take_rrb xs)

abbrev pub form_e : (Expr → List Item) → Form
form_e f equs xs = gives f (take_e xs)

abbrev pub form_re : (ℕ → Expr → List Item) → Form
form_re f equs xs = gives (λ t. f t.0 t.1) (take_re xs)

abbrev pub form_rre : (ℕ → ℕ → Expr → List Item) → Form
form_rre f equs xs = gives (λ t. f t.0 t.1 t.2) (take_rre xs)

abbrev pub form_rc : (ℕ → Expr → Option ℤ → List Item) → Form
form_rc f equs xs = gives (λ t. f t.0 t.1 t.2) (take_rc equs xs)

abbrev pub form_ff : (ℕ → ℕ → List Item) → Form
form_ff f equs xs = gives (λ t. f t.0 t.1) (take_ff xs)

-- of two ways, the one that fits, or the one that goes further
abbrev pub further : {A : Type 0} → Took A → Took A → Took A
further (Taken a xs) other = Taken a xs
further (Stuck xs) (Taken a ys) = Taken a ys
further (Stuck xs) (Stuck ys) = if nat_lt (length xs) (length ys) then Stuck xs else Stuck ys

-- the form that fits, or that goes furthest
unfoldable pub take_forms : List Form → Form
take_forms [] equs xs = Stuck xs
take_forms (form ∷ []) equs xs = form equs xs
take_forms (form ∷ other ∷ forms) equs xs = further (form equs xs) (take_forms (other ∷ forms) equs xs)

-- ---- the tables

abbrev pub branches : List (List ℕ × BranchOp)
branches = (codes "beq", Beq) ∷ (codes "bne", Bne) ∷ (codes "blt", Blt) ∷ (codes "bge", Bge) ∷ (codes "bltu", Bltu) ∷ (codes "bgeu", Bgeu) ∷ []

abbrev pub loads : List (List ℕ × LoadOp)
loads = (codes "lb", Lb) ∷ (codes "lh", Lh) ∷ (codes "lw", Lw) ∷ (codes "lbu", Lbu) ∷ (codes "lhu", Lhu) ∷ []

abbrev pub stores : List (List ℕ × StoreOp)
stores = (codes "sb", Sb) ∷ (codes "sh", Sh) ∷ (codes "sw", Sw) ∷ []

abbrev pub imm_ops : List (List ℕ × ImmOp)
imm_ops = (codes "addi", Addi) ∷ (codes "slti", Slti) ∷ (codes "sltiu", Sltiu) ∷ (codes "xori", Xori) ∷ (codes "ori", Ori) ∷ (codes "andi", Andi) ∷ []

abbrev pub shift_ops : List (List ℕ × ImmOp)
shift_ops = (codes "slli", Slli) ∷ (codes "srli", Srli) ∷ (codes "srai", Srai) ∷ []

abbrev pub reg_ops : List (List ℕ × RegOp)
reg_ops =
    (codes "add", Add) ∷ (codes "sub", Sub) ∷ (codes "sll", Sll) ∷ (codes "slt", Slt) ∷ (codes "sltu", Sltu) ∷ (codes "xor", Xor) ∷ (codes "srl", Srl)
    ∷ (codes "sra", Sra) ∷ (codes "or", Or) ∷ (codes "and", And) ∷ []

abbrev pub amo_ops : List (List ℕ × AmoOp)
amo_ops =
    (codes "amoadd.w", Amoadd) ∷ (codes "amoswap.w", Amoswap) ∷ (codes "amoxor.w", Amoxor) ∷ (codes "amoor.w", Amoor) ∷ (codes "amoand.w", Amoand)
    ∷ (codes "amomin.w", Amomin) ∷ (codes "amomax.w", Amomax) ∷ (codes "amominu.w", Amominu) ∷ (codes "amomaxu.w", Amomaxu) ∷ []

-- an AMO's suffixes, with their aq and rl
abbrev pub orderings : List (List ℕ × (Bool × Bool))
orderings = (codes "", (false, false)) ∷ (codes ".aq", (true, false)) ∷ (codes ".rl", (false, true)) ∷ (codes ".aqrl", (true, true)) ∷ []

-- `li` by its value: one instruction where it is of twelve bits, else its high part, and then its low part where that isn't 0
abbrev pub load_constant : ℕ → ℤ → List Item
load_constant rd n =
    let value = cast_signed w32 (word_of n) in
    if is_imm_12 value then ready (OpImm Addi rd 0 value)
    else (if word_of n % 4096 == 0 then ready (Lui rd (high_part value))
    else Known (Instruction (Lui rd (high_part value))) ∷ ready (OpImm Addi rd rd (low_part value)))

-- an address or number in two instructions
abbrev pub load_address : ℕ → Expr → List Item
load_address rd expr =
    Numbered expr expr.column is_number (λ n. Instruction (Lui rd (high_part n)))
    ∷ Numbered expr expr.column is_number (λ n. Instruction (OpImm Addi rd rd (low_part n))) ∷ []

-- a constant without a value has a fault, and room for two instructions
abbrev pub load_immediate : ℕ → Expr → Option ℤ → List Item
load_immediate rd expr (Some n) = load_constant rd n
load_immediate rd expr None = load_address rd expr

abbrev pub fence_word : ℕ → ℕ → ℕ
fence_word before after = 2 ^ 24 * before + 2 ^ 20 * after + 0xf

-- names with what each stands for, as names with the forms of that
abbrev pub rows : {A : Type 0} → (A → List Form) → List (List ℕ × A) → List (List ℕ × List Form)
rows forms table = map (λ row. (row.0, forms row.1)) table

abbrev pub upper_and_jump_rows : List (List ℕ × List Form)
upper_and_jump_rows =
    (codes "lui", form_ri (λ rd imm. with_imm is_imm_20 (λ n. Lui rd (word_of n)) imm ∷ []) ∷ [])
    ∷ (codes "auipc", form_ri (λ rd imm. with_imm is_imm_20 (λ n. Auipc rd (word_of n)) imm ∷ []) ∷ [])
    ∷ (codes "jal", form_re (λ rd target. jump_to rd target ∷ []) ∷ form_e (λ target. jump_to 1 target ∷ []) ∷ [])
    ∷ (
      codes "jalr",
      form_rm (λ rd imm rs1. with_imm is_imm_12 (Jalr rd rs1) imm ∷ [])
          ∷ form_rri (λ rd rs1 imm. with_imm is_imm_12 (Jalr rd rs1) imm ∷ [])
          ∷ form_r (λ rs. ready (Jalr 1 rs (pos 0))) ∷ [],
    )
    ∷ []

abbrev pub branch_rows : List (List ℕ × List Form)
branch_rows = rows (λ op. form_rre (λ rs1 rs2 target. branch_to op rs1 rs2 target ∷ []) ∷ []) branches

abbrev pub load_and_store_rows : List (List ℕ × List Form)
load_and_store_rows =
    rows (λ op. form_rm (λ rd imm rs1. with_imm is_imm_12 (Load op rd rs1) imm ∷ []) ∷ []) loads
    ++ rows (λ op. form_rm (λ rs2 imm rs1. with_imm is_imm_12 (Store op rs1 rs2) imm ∷ []) ∷ []) stores

abbrev pub imm_rows : List (List ℕ × List Form)
imm_rows =
    rows (λ op. form_rri (λ rd rs1 imm. with_imm is_imm_12 (OpImm op rd rs1) imm ∷ []) ∷ []) imm_ops
    ++ rows (λ op. form_rri (λ rd rs1 imm. with_imm is_shift (OpImm op rd rs1) imm ∷ []) ∷ []) shift_ops

abbrev pub reg_rows : List (List ℕ × List Form)
reg_rows = rows (λ op. form_rrr (λ rd rs1 rs2. ready (Op op rd rs1 rs2)) ∷ []) reg_ops

abbrev pub amo_forms : AmoOp → Bool × Bool → List Form
amo_forms op ordering = form_rrb (λ rd rs2 rs1. ready (Amo op rd rs1 rs2 ordering.0 ordering.1)) ∷ []

-- each operation with each suffix
abbrev pub amo_rows : List (List ℕ × List Form)
amo_rows = flat_map (λ row. map (λ suffix. (row.0 ++ suffix.0, amo_forms row.1 suffix.1)) orderings) amo_ops

abbrev pub fence_and_system_rows : List (List ℕ × List Form)
fence_and_system_rows =
    (codes "fence", no_operands (ready (Fence (fence_word 15 15))) ∷ form_ff (λ before after. ready (Fence (fence_word before after))) ∷ [])
    ∷ (codes "ecall", no_operands (ready Ecall) ∷ [])
    ∷ (codes "ebreak", no_operands (ready Ebreak) ∷ [])
    ∷ []

abbrev pub pseudo_operation_rows : List (List ℕ × List Form)
pseudo_operation_rows =
    (codes "nop", no_operands (ready (OpImm Addi 0 0 (pos 0))) ∷ [])
    ∷ (codes "mv", form_rr (λ rd rs. ready (OpImm Addi rd rs (pos 0))) ∷ [])
    ∷ (codes "not", form_rr (λ rd rs. ready (OpImm Xori rd rs (neg_ℤ (pos 1)))) ∷ [])
    ∷ (codes "neg", form_rr (λ rd rs. ready (Op Sub rd 0 rs)) ∷ [])
    ∷ (codes "seqz", form_rr (λ rd rs. ready (OpImm Sltiu rd rs (pos 1))) ∷ [])
    ∷ (codes "snez", form_rr (λ rd rs. ready (Op Sltu rd 0 rs)) ∷ [])
    ∷ (codes "sltz", form_rr (λ rd rs. ready (Op Slt rd rs 0)) ∷ [])
    ∷ (codes "sgtz", form_rr (λ rd rs. ready (Op Slt rd 0 rs)) ∷ [])
    ∷ []

abbrev pub branch_zero_rows : List (List ℕ × List Form)
branch_zero_rows =
    (codes "beqz", form_re (λ rs target. branch_to Beq rs 0 target ∷ []) ∷ [])
    ∷ (codes "bnez", form_re (λ rs target. branch_to Bne rs 0 target ∷ []) ∷ [])
    ∷ (codes "blez", form_re (λ rs target. branch_to Bge 0 rs target ∷ []) ∷ [])
    ∷ (codes "bgez", form_re (λ rs target. branch_to Bge rs 0 target ∷ []) ∷ [])
    ∷ (codes "bltz", form_re (λ rs target. branch_to Blt rs 0 target ∷ []) ∷ [])
    ∷ (codes "bgtz", form_re (λ rs target. branch_to Blt 0 rs target ∷ []) ∷ [])
    ∷ []

abbrev pub swapped_branch_rows : List (List ℕ × List Form)
swapped_branch_rows =
    (codes "bgt", form_rre (λ a b target. branch_to Blt b a target ∷ []) ∷ [])
    ∷ (codes "ble", form_rre (λ a b target. branch_to Bge b a target ∷ []) ∷ [])
    ∷ (codes "bgtu", form_rre (λ a b target. branch_to Bltu b a target ∷ []) ∷ [])
    ∷ (codes "bleu", form_rre (λ a b target. branch_to Bgeu b a target ∷ []) ∷ [])
    ∷ []

abbrev pub pseudo_jump_and_load_rows : List (List ℕ × List Form)
pseudo_jump_and_load_rows =
    (codes "j", form_e (λ target. jump_to 0 target ∷ []) ∷ [])
    ∷ (codes "call", form_e (λ target. jump_to 1 target ∷ []) ∷ [])
    ∷ (codes "jr", form_r (λ rs. ready (Jalr 0 rs (pos 0))) ∷ [])
    ∷ (codes "ret", no_operands (ready (Jalr 0 1 (pos 0))) ∷ [])
    ∷ (codes "li", form_rc load_immediate ∷ [])
    ∷ (codes "la", form_re load_address ∷ [])
    ∷ []

-- instructions but for AMOs
abbrev pub instruction_rows : List (List ℕ × List Form)
instruction_rows = upper_and_jump_rows ++ branch_rows ++ load_and_store_rows ++ imm_rows ++ reg_rows ++ fence_and_system_rows

abbrev pub pseudo_rows : List (List ℕ × List Form)
pseudo_rows = pseudo_operation_rows ++ branch_zero_rows ++ swapped_branch_rows ++ pseudo_jump_and_load_rows

unfoldable pub mnemonics : List (List ℕ × List Form)
mnemonics = instruction_rows ++ amo_rows ++ pseudo_rows

-- the forms of a mnemonic, if there is one of this name
unfoldable pub forms_named : List ℕ → Option (List Form)
forms_named name = value_in mnemonics name
