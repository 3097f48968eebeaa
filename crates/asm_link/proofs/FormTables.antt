-- The forms of every mnemonic give what can be encoded, once its numbers fit.
use Rattle.std.proofs.Common.{◌≡◌, ℕ, ◌<◌, Bool, true, false, List, [], ◌∷◌, ◌++◌, map, Option, Some, None, refl, arith}
use Rattle.std.specs.Prelude.{ℤ, pos, negsuc, neg_ℤ, ◌%◌, ◌==◌, if◌then◌else◌, IfSome}
use Rattle.std.specs.List.{AllByRecursion, flat_map}
use Rattle.std.specs.Int.{w32, cast_signed}
use Rattle.std.specs.Str.{bytes_eq}
use Rattle.pmsi_model.specs.declared.instr.Instr.{Instr}
use Rattle.pmsi_model.specs.declared.instr.Instr.TheVariants.{Lui, Auipc, Jal, Jalr, Branch, Load, Store, OpImm, Op, Amo, Fence, Ecall, Ebreak}
use Rattle.pmsi_model.specs.declared.instr.BranchOp.{BranchOp}
use Rattle.pmsi_model.specs.declared.instr.BranchOp.TheVariants.{Beq, Bne, Blt, Bge, Bltu, Bgeu}
use Rattle.pmsi_model.specs.declared.instr.LoadOp.{LoadOp}
use Rattle.pmsi_model.specs.declared.instr.StoreOp.{StoreOp}
use Rattle.pmsi_model.specs.declared.instr.AmoOp.{AmoOp}
use Rattle.pmsi_model.specs.declared.instr.ImmOp.{ImmOp}
use Rattle.pmsi_model.specs.declared.instr.ImmOp.TheVariants.{Addi, Xori, Sltiu}
use Rattle.pmsi_model.specs.declared.instr.RegOp.TheVariants.{Sub, Slt, Sltu}
use Rattle.pmsi_model.specs.Words.{word_of}
use Rattle.asm_operands.specs.Numbers.{value_in}
use Rattle.asm_operands.specs.Operands.{Expr, Imm}
use Rattle.asm_parse.specs.Items.{is_ready, op_takes}
use Rattle.asm_parse.specs.Mnemonics.{Item, Known, Instruction, Form, form_r, form_rm, form_rre, form_rrr, form_rri, amo_forms, amo_ops, amo_rows, branch_rows, branch_to, branch_zero_rows, branches, fence_and_system_rows, fence_word, forms_named, high_part, imm_ops, imm_rows, instruction_rows, is_imm_12, is_imm_20, is_shift, jump_to, load_address, load_and_store_rows, load_constant, load_immediate, loads, low_part, mnemonics, orderings, part_of, pseudo_jump_and_load_rows, pseudo_operation_rows, pseudo_rows, ready, reg_ops, reg_rows, rows, shift_ops, stores, swapped_branch_rows, upper_and_jump_rows, with_imm}
use Rattle.asm_link.specs.Resolved.{AreRegs}
use Rattle.asm_link.proofs.FormItems.{AreCodable, IsForm, coded, is_e, is_ff, is_none, is_r, is_rc, is_re, is_ri, is_rm, is_rr, is_rrb, is_rre, is_rri, is_rrr}

-- ---- items of one instruction

ready_is : (instr : Instr) → AreRegs instr → is_ready instr ≡ true → AreCodable 4 (ready instr)
ready_is instr regs is = (coded instr regs is, tt)

small_upper : (n : ℤ) → is_imm_20 n ≡ true → is_ready (Lui 0 (word_of n)) ≡ true
small_upper (pos n) fits = grind (arith, fits)
small_upper (negsuc n) fits = grind (arith, fits)

-- with an immediate, of which every value that fits is one that the instruction takes
imm_is : (fits : ℤ → Bool) (make : ℤ → Instr) (imm : Imm) → ((n : ℤ) → AreRegs (make n)) → ((n : ℤ) → fits n ≡ true → is_ready (make n) ≡ true)
    → AreCodable 4 (with_imm fits make imm ∷ [])
imm_is fits make imm regs takes = (λ n is. coded (make (part_of imm.part n)) (regs (part_of imm.part n)) (takes (part_of imm.part n) is), tt)

jump_is : (rd : ℕ) (target : Expr) → rd < 32 → AreCodable 4 (jump_to rd target ∷ [])
jump_is rd target small = (λ n is. coded (Jal rd n) small is, tt)

branch_is : (op : BranchOp) (rs1 rs2 : ℕ) (target : Expr) → rs1 < 32 → rs2 < 32 → AreCodable 4 (branch_to op rs1 rs2 target ∷ [])
branch_is op rs1 rs2 target small also = (λ n is. coded (Branch op rs1 rs2 n) (small, also) is, tt)

-- ---- constants and addresses

upper_part : (rd : ℕ) (n : ℤ) → is_ready (Lui rd (high_part n)) ≡ true
upper_part rd n = grind arith

lower_part : (rd : ℕ) (n : ℤ) → is_ready (OpImm Addi rd rd (low_part n)) ≡ true
lower_part rd n = grind arith

address_is : (rd : ℕ) (expr : Expr) → rd < 32 → AreCodable 4 (load_address rd expr)
address_is rd expr small =
    (λ n is. coded (Lui rd (high_part n)) small (upper_part rd n), (λ n is. coded (OpImm Addi rd rd (low_part n)) (small, small) (lower_part rd n), tt))

either_is : (test : Bool) (one other : List Item) → (test ≡ true → AreCodable 4 one) → (test ≡ false → AreCodable 4 other)
    → AreCodable 4 (if test then one else other)
either_is true one other is also = is refl
either_is false one other is also = also refl

constant_is : (rd : ℕ) (n : ℤ) → rd < 32 → AreCodable 4 (load_constant rd n)
constant_is rd n small =
    let value = cast_signed w32 (word_of n) in
    let both : AreCodable 4 (Known (Instruction (Lui rd (high_part value))) ∷ ready (OpImm Addi rd rd (low_part value))) =
    (coded (Lui rd (high_part value)) small (upper_part rd value), ready_is (OpImm Addi rd rd (low_part value)) (small, small) (lower_part rd value)) in
    either_is (is_imm_12 value) _ _
    (λ fits. ready_is (OpImm Addi rd 0 value) (small, omega arith) fits)
    (λ _. either_is (word_of n % 4096 == 0) _ _ (λ _. ready_is (Lui rd (high_part value)) small (upper_part rd value)) (λ _. both))

immediate_is : (rd : ℕ) (expr : Expr) (n : Option ℤ) → rd < 32 → AreCodable 4 (load_immediate rd expr n)
immediate_is rd expr (Some n) small = constant_is rd n small
immediate_is rd expr None small = address_is rd expr small

-- ---- rows

-- one more, in front of what holds of the others
pub and_rows : {P Q : Type 0} → P → Q → P × Q
and_rows is are = (is, are)

abbrev pub AreForms : List Form → Type 0
AreForms forms = AllByRecursion IsForm forms

abbrev AreRows : List (List ℕ × List Form) → Type 0
AreRows table = AllByRecursion (λ row. AreForms row.1) table

both_rows : (table others : List (List ℕ × List Form)) → AreRows table → AreRows others → AreRows (table ++ others)
both_rows [] others are also = also
both_rows (row ∷ table) others are also = (are.0, both_rows table others are.1 also)

rows_are : {A : Type 0} (P : A → Type 0) (forms : A → List Form) (table : List (List ℕ × A)) → AllByRecursion (λ row. P row.1) table
    → ((a : A) → P a → AreForms (forms a)) → AreRows (rows forms table)
rows_are P forms [] all each = tt
rows_are P forms (row ∷ table) all each = (each row.1 all.0, rows_are P forms table all.1 each)

all_rows : {A : Type 0} (forms : A → List Form) (table : List (List ℕ × A)) → ((a : A) → AreForms (forms a)) → AreRows (rows forms table)
all_rows forms [] each = tt
all_rows forms (row ∷ table) each = (each row.1, all_rows forms table each)

jalr_is : (rd rs1 : ℕ) (imm : Imm) → rd < 32 → rs1 < 32 → AreCodable 4 (with_imm is_imm_12 (Jalr rd rs1) imm ∷ [])
jalr_is rd rs1 imm small also = imm_is is_imm_12 (Jalr rd rs1) imm (λ n. (small, also)) (λ n fits. fits)

jalr_forms : AreForms
    (form_rm (λ rd imm rs1. with_imm is_imm_12 (Jalr rd rs1) imm ∷ [])
    ∷ form_rri (λ rd rs1 imm. with_imm is_imm_12 (Jalr rd rs1) imm ∷ []) ∷ form_r (λ rs. ready (Jalr 1 rs (pos 0))) ∷ [])
jalr_forms =
    and_rows (is_rm _ (λ rd imm rs1 small also. jalr_is rd rs1 imm small also))
    (and_rows (is_rri _ jalr_is) (and_rows (is_r _ (λ rs small. ready_is (Jalr 1 rs (pos 0)) (omega arith, small) refl)) tt))

upper_and_jump : AreRows upper_and_jump_rows
upper_and_jump =
    and_rows (is_ri _ (λ rd imm small. imm_is is_imm_20 (λ n. Lui rd (word_of n)) imm (λ n. small) small_upper), tt)
    (and_rows (is_ri _ (λ rd imm small. imm_is is_imm_20 (λ n. Auipc rd (word_of n)) imm (λ n. small) small_upper), tt)
    (and_rows (is_re _ jump_is, (is_e _ (λ target. jump_is 1 target (omega arith)), tt))
    (and_rows jalr_forms tt)))

branches_are : AreRows branch_rows
branches_are =
    all_rows (λ op. form_rre (λ rs1 rs2 target. branch_to op rs1 rs2 target ∷ []) ∷ []) branches
    (λ op. (is_rre _ (λ rs1 rs2 target small also. branch_is op rs1 rs2 target small also), tt))

abbrev load_forms : LoadOp → List Form
load_forms op = form_rm (λ rd imm rs1. with_imm is_imm_12 (Load op rd rs1) imm ∷ []) ∷ []

abbrev store_forms : StoreOp → List Form
store_forms op = form_rm (λ rs2 imm rs1. with_imm is_imm_12 (Store op rs1 rs2) imm ∷ []) ∷ []

loads_and_stores : AreRows load_and_store_rows
loads_and_stores =
    both_rows (rows load_forms loads) (rows store_forms stores)
    (all_rows load_forms loads (λ op. (is_rm _ (λ rd imm rs1 small also. imm_is is_imm_12 (Load op rd rs1) imm (λ n. (small, also)) (λ n fits. fits)), tt)))
    (all_rows store_forms stores (λ op. (
      is_rm _
          (λ rs2 imm rs1 small also. imm_is is_imm_12 (Store op rs1 rs2) imm (λ n. (also, small)) (λ n fits. fits)),
      tt,
    )))

-- an operation takes the numbers that fit
abbrev Takes : (ℤ → Bool) → ImmOp → Type 0
Takes fits op = (n : ℤ) → fits n ≡ true → op_takes op n ≡ true

abbrev imm_forms : (ℤ → Bool) → ImmOp → List Form
imm_forms fits op = form_rri (λ rd rs1 imm. with_imm fits (OpImm op rd rs1) imm ∷ []) ∷ []

imm_forms_are : (fits : ℤ → Bool) (op : ImmOp) → Takes fits op → AreForms (imm_forms fits op)
imm_forms_are fits op takes = (is_rri _ (λ rd rs1 imm small also. imm_is fits (OpImm op rd rs1) imm (λ n. (small, also)) takes), tt)

imms_are : AreRows imm_rows
imms_are =
    both_rows (rows (imm_forms is_imm_12) imm_ops) (rows (imm_forms is_shift) shift_ops)
    (rows_are (Takes is_imm_12) (imm_forms is_imm_12) imm_ops
    (λ n fits. fits, (λ n fits. fits, (λ n fits. fits, (λ n fits. fits, (λ n fits. fits, (λ n fits. fits, tt)))))) (imm_forms_are is_imm_12))
    (rows_are (Takes is_shift) (imm_forms is_shift) shift_ops (λ n fits. fits, (λ n fits. fits, (λ n fits. fits, tt))) (imm_forms_are is_shift))

regs_are : AreRows reg_rows
regs_are =
    all_rows (λ op. form_rrr (λ rd rs1 rs2. ready (Op op rd rs1 rs2)) ∷ []) reg_ops
    (λ op. (is_rrr _ (λ rd rs1 rs2 a b c. ready_is (Op op rd rs1 rs2) (a, b, c) refl), tt))

amo_forms_are : (op : AmoOp) (ordering : Bool × Bool) → AreForms (amo_forms op ordering)
amo_forms_are op ordering = (is_rrb _ (λ rd rs2 rs1 a b c. ready_is (Amo op rd rs1 rs2 ordering.0 ordering.1) (a, c, b) refl), tt)

suffixed : (name : List ℕ) (op : AmoOp) (suffixes : List (List ℕ × (Bool × Bool)))
    → AreRows (map (λ suffix. (name ++ suffix.0, amo_forms op suffix.1)) suffixes)
suffixed name op [] = tt
suffixed name op (suffix ∷ suffixes) = (amo_forms_are op suffix.1, suffixed name op suffixes)

amos_of : (ops : List (List ℕ × AmoOp)) → AreRows (flat_map (λ row. map (λ suffix. (row.0 ++ suffix.0, amo_forms row.1 suffix.1)) orderings) ops)
amos_of [] = tt
amos_of (op ∷ ops) =
    both_rows (map (λ suffix. (op.0 ++ suffix.0, amo_forms op.1 suffix.1)) orderings)
    (flat_map (λ row. map (λ suffix. (row.0 ++ suffix.0, amo_forms row.1 suffix.1)) orderings) ops) (suffixed op.0 op.1 orderings) (amos_of ops)

fence_is : (before after : ℕ) → before < 16 → after < 16 → AreCodable 4 (ready (Fence (fence_word before after)))
fence_is before after small also =
    let is : is_ready (Fence (fence_word before after)) ≡ true = grind (arith, small, also) in
    ready_is (Fence (fence_word before after)) tt is

fence_and_system : AreRows fence_and_system_rows
fence_and_system =
    and_rows (is_none _ (fence_is 15 15 (omega arith) (omega arith)), (is_ff _ fence_is, tt))
    (and_rows (is_none _ (ready_is Ecall tt refl), tt)
    (and_rows (is_none _ (ready_is Ebreak tt refl), tt) tt))

pseudo_operations : AreRows pseudo_operation_rows
pseudo_operations =
    and_rows (is_none _ (ready_is (OpImm Addi 0 0 (pos 0)) (omega arith, omega arith) refl), tt)
    (and_rows (is_rr _ (λ rd rs a b. ready_is (OpImm Addi rd rs (pos 0)) (a, b) refl), tt)
    (and_rows (is_rr _ (λ rd rs a b. ready_is (OpImm Xori rd rs (neg_ℤ (pos 1))) (a, b) refl), tt)
    (and_rows (is_rr _ (λ rd rs a b. ready_is (Op Sub rd 0 rs) (a, omega arith, b) refl), tt)
    (and_rows (is_rr _ (λ rd rs a b. ready_is (OpImm Sltiu rd rs (pos 1)) (a, b) refl), tt)
    (and_rows (is_rr _ (λ rd rs a b. ready_is (Op Sltu rd 0 rs) (a, omega arith, b) refl), tt)
    (and_rows (is_rr _ (λ rd rs a b. ready_is (Op Slt rd rs 0) (a, b, omega arith) refl), tt)
    (and_rows (is_rr _ (λ rd rs a b. ready_is (Op Slt rd 0 rs) (a, omega arith, b) refl), tt) tt)))))))

branches_on_zero : AreRows branch_zero_rows
branches_on_zero =
    and_rows (is_re _ (λ rs target a. branch_is Beq rs 0 target a (omega arith)), tt)
    (and_rows (is_re _ (λ rs target a. branch_is Bne rs 0 target a (omega arith)), tt)
    (and_rows (is_re _ (λ rs target a. branch_is Bge 0 rs target (omega arith) a), tt)
    (and_rows (is_re _ (λ rs target a. branch_is Bge rs 0 target a (omega arith)), tt)
    (and_rows (is_re _ (λ rs target a. branch_is Blt rs 0 target a (omega arith)), tt)
    (and_rows (is_re _ (λ rs target a. branch_is Blt 0 rs target (omega arith) a), tt) tt)))))

swapped_branches : AreRows swapped_branch_rows
swapped_branches =
    and_rows (is_rre _ (λ a b target small also. branch_is Blt b a target also small), tt)
    (and_rows (is_rre _ (λ a b target small also. branch_is Bge b a target also small), tt)
    (and_rows (is_rre _ (λ a b target small also. branch_is Bltu b a target also small), tt)
    (and_rows (is_rre _ (λ a b target small also. branch_is Bgeu b a target also small), tt) tt)))

pseudo_jumps_and_loads : AreRows pseudo_jump_and_load_rows
pseudo_jumps_and_loads =
    and_rows (is_e _ (λ target. jump_is 0 target (omega arith)), tt)
    (and_rows (is_e _ (λ target. jump_is 1 target (omega arith)), tt)
    (and_rows (is_r _ (λ rs a. ready_is (Jalr 0 rs (pos 0)) (omega arith, a) refl), tt)
    (and_rows (is_none _ (ready_is (Jalr 0 1 (pos 0)) (omega arith, omega arith) refl), tt)
    (and_rows (is_rc _ immediate_is, tt)
    (and_rows (is_re _ address_is, tt) tt)))))

all_are : AreRows mnemonics
unfolding mnemonics
all_are =
    both_rows instruction_rows (amo_rows ++ pseudo_rows)
    (both_rows upper_and_jump_rows (branch_rows ++ load_and_store_rows ++ imm_rows ++ reg_rows ++ fence_and_system_rows) upper_and_jump
    (both_rows branch_rows (load_and_store_rows ++ imm_rows ++ reg_rows ++ fence_and_system_rows) branches_are
    (both_rows load_and_store_rows (imm_rows ++ reg_rows ++ fence_and_system_rows) loads_and_stores
    (both_rows imm_rows (reg_rows ++ fence_and_system_rows) imms_are (both_rows reg_rows fence_and_system_rows regs_are fence_and_system)))))
    (both_rows amo_rows pseudo_rows (amos_of amo_ops)
    (both_rows pseudo_operation_rows (branch_zero_rows ++ swapped_branch_rows ++ pseudo_jump_and_load_rows) pseudo_operations
    (both_rows branch_zero_rows (swapped_branch_rows ++ pseudo_jump_and_load_rows) branches_on_zero
    (both_rows swapped_branch_rows pseudo_jump_and_load_rows swapped_branches pseudo_jumps_and_loads))))

-- ---- the rows by their names

value_if : {A : Type 0} (P : A → Type 0) (row : List ℕ × A) (rows : List (List ℕ × A)) (text : List ℕ) (test : Bool) → bytes_eq row.0 text ≡ test → P row.1
    → IfSome (value_in rows text) P → IfSome (value_in (row ∷ rows) text) P
value_if P row rows text true is here behind = rw is here
value_if P row rows text false is here behind = rw is behind

pub value_as : {A : Type 0} (P : A → Type 0) (rows : List (List ℕ × A)) (text : List ℕ) → AllByRecursion (λ row. P row.1) rows → IfSome (value_in rows text) P
value_as P [] text all = tt
value_as P (row ∷ rows) text all = value_if P row rows text (bytes_eq row.0 text) refl all.0 (value_as P rows text all.1)

pub named_forms : (name : List ℕ) → IfSome (forms_named name) AreForms
unfolding forms_named
named_forms name = value_as AreForms mnemonics name all_are
