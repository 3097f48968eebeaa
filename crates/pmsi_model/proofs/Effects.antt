-- An instruction asks for an aligned access within memory alone.
use Rattle.std.proofs.Common.{◌≡◌, ℕ, ◌+◌, ◌*◌, ◌/◌, ◌%◌, ◌<◌, ◌≤◌, ◌==◌, nat_lt, Bool, true, false, if◌then◌else◌, Option, Some, None, List, slice_get, refl, arith}
use Rattle.std.proofs.lemmas.Bool.Decides.{nat_tests}
use Rattle.std.proofs.lemmas.Nat.{div-add-mod'}
use Rattle.pmsi_model.specs.declared.job.Geometry.{Geometry}
use Rattle.pmsi_model.specs.declared.Access.{Access}
use Rattle.pmsi_model.specs.declared.AccessOp.{AccessOp}
use Rattle.pmsi_model.specs.declared.AccessOp.TheVariants.{Load as LoadAccess, Store as StoreAccess, Amo as AmoAccess}
use Rattle.pmsi_model.specs.declared.Halt.TheVariants.{Range, Misaligned, JumpMisaligned}
use Rattle.pmsi_model.specs.declared.instr.Instr.{Instr}
use Rattle.pmsi_model.specs.declared.instr.Instr.TheVariants.{Lui, Auipc, Jal, Jalr, Branch, Load, Store, OpImm, Op, Amo, Fence, Ecall, Ebreak}
use Rattle.pmsi_model.specs.declared.instr.LoadOp.TheVariants.{Lb, Lh, Lw, Lbu, Lhu}
use Rattle.pmsi_model.specs.declared.instr.StoreOp.TheVariants.{Sb, Sh, Sw}
use Rattle.pmsi_model.specs.Access.{width_of}
use Rattle.pmsi_model.specs.Words.{plus_signed}
use Rattle.pmsi_model.specs.Effect.{Effect, Next, Memory, Stop, effect_of, asks, access, jump, reg_of, with_reg, next_pc, is_taken}
use Rattle.pmsi_model.specs.Instruction.{instr_of}
use Rattle.pmsi_model.specs.Machine.{CoreState}
use Rattle.pmsi_model.specs.Phase.{effect_of_word, effect_of_fetch, effect_at}
use Rattle.pmsi_model.proofs.Accesses.{IsFit}

-- an effect's access is aligned, and within a memory of this size
abbrev pub EffectFits : ℕ → Effect → Type 0
EffectFits size (Next regs pc) = Unit {0}
EffectFits size (Stop halt) = Unit {0}
EffectFits size (Memory access) = IsFit size access

if_fits : (size : ℕ) (b : Bool) (e f : Effect) → (b ≡ true → EffectFits size e) → EffectFits size f → EffectFits size (if b then e else f)
if_fits size true e f h k = h refl
if_fits size false e f h k = k

width_fits : (op : AccessOp) (at size : ℕ) → at % width_of op ≡ 0 → size % 4 ≡ 0 → at < size → at + width_of op ≤ size
width_fits (LoadAccess Lb) at size a s h = omega arith
width_fits (LoadAccess Lh) at size a s h = omega arith
width_fits (LoadAccess Lw) at size a s h = omega arith
width_fits (LoadAccess Lbu) at size a s h = omega arith
width_fits (LoadAccess Lhu) at size a s h = omega arith
width_fits (StoreAccess Sb) at size a s h = omega arith
width_fits (StoreAccess Sh) at size a s h = omega arith
width_fits (StoreAccess Sw) at size a s h = omega arith
width_fits (AmoAccess op) at size a s h = omega arith

is_zero : (n : ℕ) → (n == 0) ≡ true → n ≡ 0
is_zero n h = grind (arith, nat_tests)

is_below : (m n : ℕ) → nat_lt m n ≡ true → m < n
is_below m n h = grind (arith, nat_tests)

asks_fits : (size : ℕ) (access : Access) → size % 4 ≡ 0 → EffectFits size (asks size access)
asks_fits size access whole =
    if_fits size (access.address % width_of access.op == 0) (if nat_lt access.address size then Memory access else Stop (Range access.address)) (Stop (Misaligned access.address))
    (λ aligned. if_fits size (nat_lt access.address size) (Memory access) (Stop (Range access.address))
    (λ below. let a : access.address % width_of access.op ≡ 0 = is_zero (access.address % width_of access.op) aligned in
    record { aligned = a; within = width_fits access.op access.address size a whole (is_below access.address size below) }) tt) tt

jump_fits : (size : ℕ) (regs : List ℕ) (rd pc target : ℕ) → EffectFits size (jump regs rd pc target)
jump_fits size regs rd pc target = if_fits size (target % 4 == 0) (Next (with_reg regs rd (next_pc pc)) target) (Stop (JumpMisaligned target)) (λ h. tt) tt

instr_fits : (instr : Instr) (regs : List ℕ) (pc size : ℕ) → size % 4 ≡ 0 → EffectFits size (effect_of instr regs pc size)
instr_fits (Lui rd imm) regs pc size whole = tt
instr_fits (Auipc rd imm) regs pc size whole = tt
instr_fits (Jal rd offset) regs pc size whole = jump_fits size regs rd pc (plus_signed pc offset)
instr_fits (Jalr rd rs1 imm) regs pc size whole = jump_fits size regs rd pc (plus_signed (reg_of regs rs1) imm / 2 * 2)
instr_fits (Branch op rs1 rs2 offset) regs pc size whole =
    if_fits size (is_taken op (reg_of regs rs1) (reg_of regs rs2)) (jump regs 0 pc (plus_signed pc offset)) (Next regs (next_pc pc)) (λ h. jump_fits size regs 0 pc (plus_signed pc offset)) tt
instr_fits (Load op rd rs1 imm) regs pc size whole = asks_fits size (access (LoadAccess op) rd (plus_signed (reg_of regs rs1) imm) 0) whole
instr_fits (Store op rs1 rs2 imm) regs pc size whole = asks_fits size (access (StoreAccess op) 0 (plus_signed (reg_of regs rs1) imm) (reg_of regs rs2)) whole
instr_fits (OpImm op rd rs1 imm) regs pc size whole = tt
instr_fits (Op op rd rs1 rs2) regs pc size whole = tt
instr_fits (Amo op rd rs1 rs2 aq rl) regs pc size whole = asks_fits size (access (AmoAccess op) rd (reg_of regs rs1) (reg_of regs rs2)) whole
instr_fits (Fence word) regs pc size whole = tt
instr_fits Ecall regs pc size whole = tt
instr_fits Ebreak regs pc size whole = tt

word_fits : (shape : Geometry) (word : ℕ) (k : CoreState) (instr : Option Instr) → shape.memory % 4 ≡ 0 → EffectFits shape.memory (effect_of_word shape word k instr)
word_fits shape word k None whole = tt
word_fits shape word k (Some instr) whole = instr_fits instr k.regs k.pc shape.memory whole

fetch_fits : (shape : Geometry) (k : CoreState) (word : Option ℕ) → shape.memory % 4 ≡ 0 → EffectFits shape.memory (effect_of_fetch shape k word)
fetch_fits shape k None whole = tt
fetch_fits shape k (Some word) whole = word_fits shape word k (instr_of word) whole

pub effect_fits : (shape : Geometry) (text : List ℕ) (k : CoreState) → shape.memory % 4 ≡ 0 → EffectFits shape.memory (effect_at shape text k)
effect_fits shape text k whole = fetch_fits shape k (slice_get text (k.pc / 4)) whole

-- a memory of whole lines is whole words
pub whole_words : (size words : ℕ) → size % (4 * words) ≡ 0 → size % 4 ≡ 0
whole_words size words h = let q : ℕ = size / (4 * words) in
    let parts : q * (4 * words) + size % (4 * words) ≡ size = div-add-mod' size (4 * words) in
    let product : q * (4 * words) ≡ 4 * (q * words) = grind arith in
    omega arith
