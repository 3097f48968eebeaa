-- The rows of the instruction table, both ways: a word that a row reads is put together from the fields that it gives,
-- which are in range; and the word that is put together from fields in range is read by the instruction's row.
use Rattle.std.proofs.Common.{◌≡◌, ℕ, zero, suc, ◌+◌, ◌*◌, ◌^◌, ◌<◌, ℤ, pos, negsuc, ◌+ℤ◌, List, [], ◌∷◌, Bool, true, false, Option, Some, None, inl, inr, refl, sym, subst, ◌∙◌, arith}
use Rattle.std.specs.Prelude.{⊤, if◌then◌else◌}
use Rattle.std.proofs.lemmas.Int.{ints}
use Rattle.pmsi_model.specs.declared.instr.Instr.{Instr}
use Rattle.pmsi_model.specs.declared.instr.Instr.TheVariants.{Lui, Auipc, Jal, Jalr, Branch, Load, Store, OpImm, Op, Amo, Fence, Ecall, Ebreak}
use Rattle.pmsi_model.specs.declared.instr.BranchOp.{BranchOp}
use Rattle.pmsi_model.specs.declared.instr.BranchOp.TheVariants.{Beq, Bne, Blt, Bge, Bltu, Bgeu}
use Rattle.pmsi_model.specs.declared.instr.LoadOp.{LoadOp}
use Rattle.pmsi_model.specs.declared.instr.LoadOp.TheVariants.{Lb, Lh, Lw, Lbu, Lhu}
use Rattle.pmsi_model.specs.declared.instr.StoreOp.{StoreOp}
use Rattle.pmsi_model.specs.declared.instr.StoreOp.TheVariants.{Sb, Sh, Sw}
use Rattle.pmsi_model.specs.declared.instr.ImmOp.{ImmOp}
use Rattle.pmsi_model.specs.declared.instr.ImmOp.TheVariants.{Addi, Slli, Slti, Sltiu, Xori, Srli, Srai, Ori, Andi}
use Rattle.pmsi_model.specs.declared.instr.RegOp.{RegOp}
use Rattle.pmsi_model.specs.declared.instr.RegOp.TheVariants.{Add, Sub, Sll, Slt, Sltu, Xor, Srl, Sra, Or, And}
use Rattle.pmsi_model.specs.declared.instr.AmoOp.{AmoOp}
use Rattle.pmsi_model.specs.declared.instr.AmoOp.TheVariants.{Amoadd, Amoswap, Amoxor, Amoor, Amoand, Amomin, Amomax, Amominu, Amomaxu}
use Rattle.pmsi_model.specs.Words.{bits_at}
use Rattle.pmsi_model.specs.Instruction.{Encoding, opcode, funct3, funct7, funct5, has_fields, rd, rs1, rs2, imm_i, imm_s, imm_b, imm_u, imm_j, shamt, aq, rl, branch_row, load_row, store_row, imm_row, shift_row, op_row, amo_row, system_row, instruction_rows, IsReadBy, IsEncodingOf}
use Rattle.rv_decode.specs.Ranges.{IsReg, IsSigned, IsShift, IsImmOf, IsInRange}
use Rattle.rv_decode.specs.Formats.{imm_bits, i_word, branch_funct3, load_funct3, store_funct3, imm_funct3, imm_field, op_funct3, op_funct7, amo_funct5, amo_funct7, word_for}
use Rattle.rv_decode.proofs.FormatFields.{IsRType, IsIType, IsSType, IsBType, r_fields, u_fields, i_fields, s_fields, b_fields, j_fields, shift_fields, srai_fields, i_range, s_range, b_range, j_range, shift_range, r_read, i_read, s_read, b_read, u_read, j_read}

-- tests of fields as equations
has_one : (a w : ℕ) → has_fields (opcode a ∷ []) w ≡ true → bits_at 0 7 w ≡ a
has_one a w fits = grind arith

has_two : (a b w : ℕ) → has_fields (opcode a ∷ funct3 b ∷ []) w ≡ true → (bits_at 0 7 w ≡ a) × (bits_at 12 3 w ≡ b)
has_two a b w fits = (grind arith, grind arith)

has_funct7 : (a b c w : ℕ) → has_fields (opcode a ∷ funct3 b ∷ funct7 c ∷ []) w ≡ true → (bits_at 0 7 w ≡ a) × (bits_at 12 3 w ≡ b) × (bits_at 25 7 w ≡ c)
has_funct7 a b c w fits = (grind arith, grind arith, grind arith)

has_funct5 : (a b c w : ℕ) → has_fields (opcode a ∷ funct3 b ∷ funct5 c ∷ []) w ≡ true → (bits_at 0 7 w ≡ a) × (bits_at 12 3 w ≡ b) × (bits_at 27 5 w ≡ c)
has_funct5 a b c w fits = (grind arith, grind arith, grind arith)

-- the word is put together from the instruction's fields, which are in range
pub record IsPutBack (w : ℕ) (instr : Instr) : Type 0 where
  pub is : word_for instr ≡ w
  pub in_range : IsInRange instr

abbrev ArePutBack : List Encoding → Type 0
ArePutBack [] = ⊤
ArePutBack (row ∷ rows) = ((w : ℕ) → w < 2 ^ 32 → has_fields row.fixed w ≡ true → IsPutBack w (row.reads w)) × ArePutBack rows

put_back : (rows : List Encoding) (w : ℕ) (instr : Instr) → ArePutBack rows → w < 2 ^ 32 → IsReadBy rows w instr → IsPutBack w instr
put_back [] w instr all within read = absurd read
put_back (row ∷ rows) w instr all within (inl here) = subst (IsPutBack w) here.1 (all.0 w within here.0)
put_back (row ∷ rows) w instr all within (inr later) = put_back rows w instr all.1 within later

in_reg : (w : ℕ) → IsReg (rd w) × IsReg (rs1 w) × IsReg (rs2 w)
in_reg w = (omega arith, omega arith, omega arith)

lui_back : (w : ℕ) → w < 2 ^ 32 → has_fields (opcode 0b0110111 ∷ []) w ≡ true → IsPutBack w (Lui (rd w) (imm_u w))
lui_back w within fits = record { is = u_fields w 0b0110111 within (has_one 0b0110111 w fits); in_range = ((in_reg w).0, omega arith) }

auipc_back : (w : ℕ) → w < 2 ^ 32 → has_fields (opcode 0b0010111 ∷ []) w ≡ true → IsPutBack w (Auipc (rd w) (imm_u w))
auipc_back w within fits = record { is = u_fields w 0b0010111 within (has_one 0b0010111 w fits); in_range = ((in_reg w).0, omega arith) }

jal_back : (w : ℕ) → w < 2 ^ 32 → has_fields (opcode 0b1101111 ∷ []) w ≡ true → IsPutBack w (Jal (rd w) (imm_j w))
jal_back w within fits = record { is = j_fields w 0b1101111 within (has_one 0b1101111 w fits); in_range = ((in_reg w).0, j_range w) }

jalr_back : (w : ℕ) → w < 2 ^ 32 → has_fields (opcode 0b1100111 ∷ funct3 0b000 ∷ []) w ≡ true → IsPutBack w (Jalr (rd w) (rs1 w) (imm_i w))
jalr_back w within fits =
    let has = has_two 0b1100111 0b000 w fits in
    record { is = i_fields w 0b000 0b1100111 within has.1 has.0; in_range = ((in_reg w).0, (in_reg w).1, i_range w) }

branch_back : (op : BranchOp) (w : ℕ) → w < 2 ^ 32 → has_fields (branch_row (branch_funct3 op) op).fixed w ≡ true → IsPutBack w (Branch op (rs1 w) (rs2 w) (imm_b w))
branch_back op w within fits =
    let has = has_two 0b1100011 (branch_funct3 op) w fits in
    record { is = b_fields w (branch_funct3 op) 0b1100011 within has.1 has.0; in_range = ((in_reg w).1, (in_reg w).2, b_range w) }

load_back : (op : LoadOp) (w : ℕ) → w < 2 ^ 32 → has_fields (load_row (load_funct3 op) op).fixed w ≡ true → IsPutBack w (Load op (rd w) (rs1 w) (imm_i w))
load_back op w within fits =
    let has = has_two 0b0000011 (load_funct3 op) w fits in
    record { is = i_fields w (load_funct3 op) 0b0000011 within has.1 has.0; in_range = ((in_reg w).0, (in_reg w).1, i_range w) }

store_back : (op : StoreOp) (w : ℕ) → w < 2 ^ 32 → has_fields (store_row (store_funct3 op) op).fixed w ≡ true → IsPutBack w (Store op (rs1 w) (rs2 w) (imm_s w))
store_back op w within fits =
    let has = has_two 0b0100011 (store_funct3 op) w fits in
    record { is = s_fields w (store_funct3 op) 0b0100011 within has.1 has.0; in_range = ((in_reg w).1, (in_reg w).2, s_range w) }

-- for an operation whose field and range compute
imm_back : (op : ImmOp) (w : ℕ) → w < 2 ^ 32 → has_fields (imm_row (imm_funct3 op) op).fixed w ≡ true →
    imm_field op (imm_i w) ≡ imm_i w → (IsSigned 12 (imm_i w) → IsImmOf op (imm_i w)) → IsPutBack w (OpImm op (rd w) (rs1 w) (imm_i w))
imm_back op w within fits field range =
    let has = has_two 0b0010011 (imm_funct3 op) w fits in
    record {
      is = rw field (i_fields w (imm_funct3 op) 0b0010011 within has.1 has.0);
      in_range = ((in_reg w).0, (in_reg w).1, range (i_range w));
    }

shift_back : (op : ImmOp) (w : ℕ) → w < 2 ^ 32 → has_fields (shift_row 0b0000000 (imm_funct3 op) op).fixed w ≡ true →
    imm_field op (shamt w) ≡ shamt w → (IsShift (shamt w) → IsImmOf op (shamt w)) → IsPutBack w (OpImm op (rd w) (rs1 w) (shamt w))
shift_back op w within fits field range =
    let has = has_funct7 0b0010011 (imm_funct3 op) 0b0000000 w fits in
    record {
      is = rw field (shift_fields w (imm_funct3 op) 0b0010011 within has.2 has.1 has.0);
      in_range = ((in_reg w).0, (in_reg w).1, range (shift_range w));
    }

srai_back : (w : ℕ) → w < 2 ^ 32 → has_fields (shift_row 0b0100000 0b101 Srai).fixed w ≡ true → IsPutBack w (OpImm Srai (rd w) (rs1 w) (shamt w))
srai_back w within fits =
    let has = has_funct7 0b0010011 0b101 0b0100000 w fits in
    record { is = srai_fields w 0b101 0b0010011 within has.2 has.1 has.0; in_range = ((in_reg w).0, (in_reg w).1, shift_range w) }

op_back : (op : RegOp) (w : ℕ) → w < 2 ^ 32 → has_fields (op_row (op_funct7 op) (op_funct3 op) op).fixed w ≡ true → IsPutBack w (Op op (rd w) (rs1 w) (rs2 w))
op_back op w within fits =
    let has = has_funct7 0b0110011 (op_funct3 op) (op_funct7 op) w fits in
    record { is = r_fields w (op_funct7 op) (op_funct3 op) 0b0110011 within has.2 has.1 has.0; in_range = in_reg w }

amo_bits : (w f5 : ℕ) → bits_at 27 5 w ≡ f5 → bits_at 25 7 w ≡ 2 ^ 2 * f5 + (if aq w then 2 else 0) + (if rl w then 1 else 0)
amo_bits w f5 is = grind arith

amo_back : (op : AmoOp) (w : ℕ) → w < 2 ^ 32 → has_fields (amo_row (amo_funct5 op) op).fixed w ≡ true → IsPutBack w (Amo op (rd w) (rs1 w) (rs2 w) (aq w) (rl w))
amo_back op w within fits =
    let has = has_funct5 0b0101111 0b010 (amo_funct5 op) w fits in
    record {
      is = r_fields w (amo_funct7 op (aq w) (rl w)) 0b010 0b0101111 within (amo_bits w (amo_funct5 op) has.2) has.1 has.0;
      in_range = in_reg w;
    }

fence_back : (w : ℕ) → w < 2 ^ 32 → has_fields (opcode 0b0001111 ∷ funct3 0b000 ∷ []) w ≡ true → IsPutBack w (Fence w)
fence_back w within fits = record { is = refl; in_range = (within, fits) }

system_word : (f12 w : ℕ) → w < 2 ^ 32 → has_fields (system_row f12 Ecall).fixed w ≡ true → 0b1110011 + 2 ^ 20 * f12 ≡ w
system_word f12 w within fits = grind arith

ecall_back : (w : ℕ) → w < 2 ^ 32 → has_fields (system_row 0 Ecall).fixed w ≡ true → IsPutBack w Ecall
ecall_back w within fits = record { is = system_word 0 w within fits; in_range = tt }

ebreak_back : (w : ℕ) → w < 2 ^ 32 → has_fields (system_row 1 Ebreak).fixed w ≡ true → IsPutBack w Ebreak
ebreak_back w within fits = record { is = system_word 1 w within fits; in_range = tt }

rows_back : ArePutBack instruction_rows
rows_back = (
  lui_back,
  (
    auipc_back,
    (
      λ w within fits. imm_back Addi w within fits refl (λ r. r),
      (
        λ w within fits. shift_back Slli w within fits refl (λ r. r),
        (
          λ w within fits. imm_back Slti w within fits refl (λ r. r),
          (
            λ w within fits. imm_back Sltiu w within fits refl (λ r. r),
            (
              λ w within fits. imm_back Xori w within fits refl (λ r. r),
              (
                λ w within fits. shift_back Srli w within fits refl (λ r. r),
                (
                  srai_back,
                  (
                    λ w within fits. imm_back Ori w within fits refl (λ r. r),
                    (
                      λ w within fits. imm_back Andi w within fits refl (λ r. r),
                      (
                        op_back Add,
                        (
                          op_back Sub,
                          (
                            op_back Sll,
                            (
                              op_back Slt,
                              (
                                op_back Sltu,
                                (
                                  op_back Xor,
                                  (
                                    op_back Srl,
                                    (
                                      op_back Sra,
                                      (
                                        op_back Or,
                                        (
                                          op_back And,
                                          (
                                            jal_back,
                                            (
                                              jalr_back,
                                              (
                                                branch_back Beq,
                                                (
                                                  branch_back Bne,
                                                  (
                                                    branch_back Blt,
                                                    (
                                                      branch_back Bge,
                                                      (
                                                        branch_back Bltu,
                                                        (
                                                          branch_back Bgeu,
                                                          (
                                                            load_back Lb,
                                                            (
                                                              load_back Lh,
                                                              (
                                                                load_back Lw,
                                                                (
                                                                  load_back Lbu,
                                                                  (
                                                                    load_back Lhu,
                                                                    (
                                                                      store_back Sb,
                                                                      (
                                                                        store_back Sh,
                                                                        (
                                                                          store_back Sw,
                                                                          (
                                                                            fence_back,
                                                                            (
                                                                              ecall_back,
                                                                              (
                                                                                ebreak_back,
                                                                                (
                                                                                  amo_back Amoadd,
                                                                                  (
                                                                                    amo_back Amoswap,
                                                                                    (
                                                                                      amo_back Amoxor,
                                                                                      (
                                                                                        amo_back Amoor,
                                                                                        (
                                                                                          amo_back Amoand,
                                                                                          (
                                                                                            amo_back Amomin,
                                                                                            (
                                                                                              amo_back Amomax,
                                                                                              (
                                                                                                amo_back Amominu,
                                                                                                (
                                                                                                  amo_back Amomaxu,
                                                                                                  tt,
                                                                                                ),
                                                                                              ),
                                                                                            ),
                                                                                          ),
                                                                                        ),
                                                                                      ),
                                                                                    ),
                                                                                  ),
                                                                                ),
                                                                              ),
                                                                            ),
                                                                          ),
                                                                        ),
                                                                      ),
                                                                    ),
                                                                  ),
                                                                ),
                                                              ),
                                                            ),
                                                          ),
                                                        ),
                                                      ),
                                                    ),
                                                  ),
                                                ),
                                              ),
                                            ),
                                          ),
                                        ),
                                      ),
                                    ),
                                  ),
                                ),
                              ),
                            ),
                          ),
                        ),
                      ),
                    ),
                  ),
                ),
              ),
            ),
          ),
        ),
      ),
    ),
  ),
)

-- a word that encodes an instruction is put together from its fields, which are in range
pub encoding_back : (w : ℕ) (instr : Instr) → IsEncodingOf w instr → IsPutBack w instr
encoding_back w instr encodes = put_back instruction_rows w instr rows_back encodes.0 encodes.1

-- the row at a place
abbrev row_at : List Encoding → ℕ → Option Encoding
row_at [] k = None
row_at (row ∷ rows) zero = Some row
row_at (row ∷ rows) (suc k) = row_at rows k

read_at : (rows : List Encoding) (k : ℕ) (row : Encoding) (w : ℕ) → row_at rows k ≡ Some row → has_fields row.fixed w ≡ true → IsReadBy rows w (row.reads w)
read_at [] k row w at fits = cc
read_at (first ∷ rows) zero row w at fits =
    let e : row ≡ first = cc in
    subst (λ (r : Encoding). IsReadBy (first ∷ rows) w (r.reads w)) (sym e) (inl (subst (λ (r : Encoding). has_fields r.fixed w ≡ true) e fits, refl))
read_at (first ∷ rows) (suc k) row w at fits = inr (read_at rows k row w at fits)

read_as : (k : ℕ) (row : Encoding) (w : ℕ) (instr : Instr) → row_at instruction_rows k ≡ Some row → w < 2 ^ 32 → has_fields row.fixed w ≡ true → row.reads w ≡ instr → IsEncodingOf w instr
read_as k row w instr at within fits reads = (within, subst (λ (i : Instr). IsReadBy instruction_rows w i) reads (read_at instruction_rows k row w at fits))

fits_one : (a w : ℕ) → bits_at 0 7 w ≡ a → has_fields (opcode a ∷ []) w ≡ true
fits_one a w is_op = grind arith

fits_two : (a b w : ℕ) → bits_at 0 7 w ≡ a → bits_at 12 3 w ≡ b → has_fields (opcode a ∷ funct3 b ∷ []) w ≡ true
fits_two a b w is_op is_f3 = grind arith

fits_funct7 : (a b c w : ℕ) → bits_at 0 7 w ≡ a → bits_at 12 3 w ≡ b → bits_at 25 7 w ≡ c → has_fields (opcode a ∷ funct3 b ∷ funct7 c ∷ []) w ≡ true
fits_funct7 a b c w is_op is_f3 is_f7 = grind arith

fits_funct5 : (a b c w : ℕ) → bits_at 0 7 w ≡ a → bits_at 12 3 w ≡ b → bits_at 27 5 w ≡ c → has_fields (opcode a ∷ funct3 b ∷ funct5 c ∷ []) w ≡ true
fits_funct5 a b c w is_op is_f3 is_f5 = grind arith

-- the word that is put together for an instruction is read by the row at a place
branch_read : (k : ℕ) (op : BranchOp) (w r1 r2 : ℕ) (imm : ℤ) → row_at instruction_rows k ≡ Some (branch_row (branch_funct3 op) op) → branch_funct3 op < 8 →
    IsInRange (Branch op r1 r2 imm) → w ≡ word_for (Branch op r1 r2 imm) → IsEncodingOf w (Branch op r1 r2 imm)
branch_read k op w r1 r2 imm at in_f3 range is =
    let type : IsBType w imm r2 r1 (branch_funct3 op) 0b1100011 = b_read w imm r2 r1 (branch_funct3 op) 0b1100011 range.2 range.1 range.0 in_f3 (omega arith) is in
    read_as k (branch_row (branch_funct3 op) op) w (Branch op r1 r2 imm) at type.fields.within (fits_two 0b1100011 (branch_funct3 op) w type.fields.is_op type.fields.is_f3)
    (rw (type.fields.is_rs1, type.fields.is_rs2, type.is_imm))

load_read : (k : ℕ) (op : LoadOp) (w d r1 : ℕ) (imm : ℤ) → row_at instruction_rows k ≡ Some (load_row (load_funct3 op) op) → load_funct3 op < 8 →
    IsInRange (Load op d r1 imm) → w ≡ word_for (Load op d r1 imm) → IsEncodingOf w (Load op d r1 imm)
load_read k op w d r1 imm at in_f3 range is =
    let type : IsIType w imm r1 (load_funct3 op) d 0b0000011 = i_read w imm r1 (load_funct3 op) d 0b0000011 range.1 in_f3 range.0 (omega arith) is in
    read_as k (load_row (load_funct3 op) op) w (Load op d r1 imm) at type.fields.within (fits_two 0b0000011 (load_funct3 op) w type.fields.is_op type.fields.is_f3)
    (rw (type.fields.is_rd, type.fields.is_rs1, type.is_imm range.2))

store_read : (k : ℕ) (op : StoreOp) (w r1 r2 : ℕ) (imm : ℤ) → row_at instruction_rows k ≡ Some (store_row (store_funct3 op) op) → store_funct3 op < 8 →
    IsInRange (Store op r1 r2 imm) → w ≡ word_for (Store op r1 r2 imm) → IsEncodingOf w (Store op r1 r2 imm)
store_read k op w r1 r2 imm at in_f3 range is =
    let type : IsSType w imm r2 r1 (store_funct3 op) 0b0100011 = s_read w imm r2 r1 (store_funct3 op) 0b0100011 range.2 range.1 range.0 in_f3 (omega arith) is in
    read_as k (store_row (store_funct3 op) op) w (Store op r1 r2 imm) at type.fields.within (fits_two 0b0100011 (store_funct3 op) w type.fields.is_op type.fields.is_f3)
    (rw (type.fields.is_rs1, type.fields.is_rs2, type.is_imm))

imm_read : (k : ℕ) (op : ImmOp) (w d r1 : ℕ) (imm : ℤ) → row_at instruction_rows k ≡ Some (imm_row (imm_funct3 op) op) → imm_funct3 op < 8 →
    IsReg d → IsReg r1 → IsSigned 12 imm → w ≡ i_word imm r1 (imm_funct3 op) d 0b0010011 → IsEncodingOf w (OpImm op d r1 imm)
imm_read k op w d r1 imm at in_f3 in_d in_r1 in_imm is =
    let type : IsIType w imm r1 (imm_funct3 op) d 0b0010011 = i_read w imm r1 (imm_funct3 op) d 0b0010011 in_r1 in_f3 in_d (omega arith) is in
    read_as k (imm_row (imm_funct3 op) op) w (OpImm op d r1 imm) at type.fields.within (fits_two 0b0010011 (imm_funct3 op) w type.fields.is_op type.fields.is_f3)
    (rw (type.fields.is_rd, type.fields.is_rs1, type.is_imm in_imm))

-- a shift by `n`, whose immediate `imm` has the field funct7 in its upper bits
shift_read : (k : ℕ) (op : ImmOp) (w d r1 n f7 : ℕ) (imm : ℤ) → row_at instruction_rows k ≡ Some (shift_row f7 (imm_funct3 op) op) → imm_funct3 op < 8 →
    IsReg d → IsReg r1 → imm_bits 5 7 imm ≡ f7 → imm_bits 0 5 imm ≡ n → w ≡ i_word imm r1 (imm_funct3 op) d 0b0010011 → IsEncodingOf w (OpImm op d r1 (pos n))
shift_read k op w d r1 n f7 imm at in_f3 in_d in_r1 is_f7 is_n is =
    let type : IsIType w imm r1 (imm_funct3 op) d 0b0010011 = i_read w imm r1 (imm_funct3 op) d 0b0010011 in_r1 in_f3 in_d (omega arith) is in
    read_as k (shift_row f7 (imm_funct3 op) op) w (OpImm op d r1 (pos n)) at type.fields.within (fits_funct7 0b0010011 (imm_funct3 op) f7 w type.fields.is_op type.fields.is_f3 (type.fields.is_f7 ∙ is_f7))
    (rw (type.fields.is_rd, type.fields.is_rs1, type.fields.is_rs2, is_n))

op_read : (k : ℕ) (op : RegOp) (w d r1 r2 : ℕ) → row_at instruction_rows k ≡ Some (op_row (op_funct7 op) (op_funct3 op) op) → op_funct7 op < 128 → op_funct3 op < 8 →
    IsInRange (Op op d r1 r2) → w ≡ word_for (Op op d r1 r2) → IsEncodingOf w (Op op d r1 r2)
op_read k op w d r1 r2 at in_f7 in_f3 range is =
    let type : IsRType w (op_funct7 op) r2 r1 (op_funct3 op) d 0b0110011 = r_read w (op_funct7 op) r2 r1 (op_funct3 op) d 0b0110011 in_f7 range.2 range.1 in_f3 range.0 (omega arith) is in
    read_as k (op_row (op_funct7 op) (op_funct3 op) op) w (Op op d r1 r2) at type.within (fits_funct7 0b0110011 (op_funct3 op) (op_funct7 op) w type.is_op type.is_f3 type.is_f7)
    (rw (type.is_rd, type.is_rs1, type.is_rs2))

ordering_bits : (w f5 : ℕ) (a r : Bool) → bits_at 25 7 w ≡ 2 ^ 2 * f5 + (if a then 2 else 0) + (if r then 1 else 0) → (bits_at 27 5 w ≡ f5) × (aq w ≡ a) × (rl w ≡ r)
ordering_bits w f5 true true is = (omega arith, grind arith, grind arith)
ordering_bits w f5 true false is = (omega arith, grind arith, grind arith)
ordering_bits w f5 false true is = (omega arith, grind arith, grind arith)
ordering_bits w f5 false false is = (omega arith, grind arith, grind arith)

in_amo : (f5 : ℕ) (a r : Bool) → f5 < 32 → 2 ^ 2 * f5 + (if a then 2 else 0) + (if r then 1 else 0) < 128
in_amo f5 a r in_f5 = grind arith

amo_read : (k : ℕ) (op : AmoOp) (w d r1 r2 : ℕ) (a r : Bool) → row_at instruction_rows k ≡ Some (amo_row (amo_funct5 op) op) → amo_funct5 op < 32 →
    IsInRange (Amo op d r1 r2 a r) → w ≡ word_for (Amo op d r1 r2 a r) → IsEncodingOf w (Amo op d r1 r2 a r)
amo_read k op w d r1 r2 a r at in_f5 range is =
    let type : IsRType w (amo_funct7 op a r) r2 r1 0b010 d 0b0101111 =
    r_read w (amo_funct7 op a r) r2 r1 0b010 d 0b0101111 (in_amo (amo_funct5 op) a r in_f5) range.2 range.1 (omega arith) range.0 (omega arith) is in
    let bits = ordering_bits w (amo_funct5 op) a r type.is_f7 in
    read_as k (amo_row (amo_funct5 op) op) w (Amo op d r1 r2 a r) at type.within (fits_funct5 0b0101111 0b010 (amo_funct5 op) w type.is_op type.is_f3 bits.0)
    (rw (type.is_rd, type.is_rs1, type.is_rs2, bits.1, bits.2))

slli_bits : (n : ℕ) → n < 32 → (imm_bits 5 7 (pos n) ≡ 0) × (imm_bits 0 5 (pos n) ≡ n)
slli_bits n within = (omega arith, omega arith)

srai_bits : (n : ℕ) → n < 32 → (imm_bits 5 7 (pos n +ℤ pos 1024) ≡ 32) × (imm_bits 0 5 (pos n +ℤ pos 1024) ≡ n)
srai_bits n within = (omega arith, omega arith)

shift_amount : (n : ℕ) → IsShift (pos n) → n < 32
shift_amount n within = omega (arith, ints)

no_shift : (n : ℕ) → IsShift (negsuc n) → ⊥
no_shift n within = omega (arith, ints)

-- the word that is put together from fields in range encodes the instruction
pub put_together : (w : ℕ) (instr : Instr) → IsInRange instr → w ≡ word_for instr → IsEncodingOf w instr
put_together w (Lui d imm) range is =
    let type = u_read w imm d 0b0110111 range.1 range.0 (omega arith) is in
    read_as 0 (record { fixed = opcode 0b0110111 ∷ []; reads = λ v. Lui (rd v) (imm_u v) }) w (Lui d imm) refl type.within (fits_one 0b0110111 w type.is_op) (rw (type.is_rd, type.is_imm))
put_together w (Auipc d imm) range is =
    let type = u_read w imm d 0b0010111 range.1 range.0 (omega arith) is in
    read_as 1 (record { fixed = opcode 0b0010111 ∷ []; reads = λ v. Auipc (rd v) (imm_u v) }) w (Auipc d imm) refl type.within (fits_one 0b0010111 w type.is_op) (rw (type.is_rd, type.is_imm))
put_together w (Jal d imm) range is =
    let type = j_read w imm d 0b1101111 range.1 range.0 (omega arith) is in
    read_as 21 (record { fixed = opcode 0b1101111 ∷ []; reads = λ v. Jal (rd v) (imm_j v) }) w (Jal d imm) refl type.fields.within (fits_one 0b1101111 w type.fields.is_op) (rw (type.fields.is_rd, type.is_imm))
put_together w (Jalr d r1 imm) range is =
    let type = i_read w imm r1 0b000 d 0b1100111 range.1 (omega arith) range.0 (omega arith) is in
    read_as 22 (record { fixed = opcode 0b1100111 ∷ funct3 0b000 ∷ []; reads = λ v. Jalr (rd v) (rs1 v) (imm_i v) }) w (Jalr d r1 imm) refl type.fields.within
    (fits_two 0b1100111 0b000 w type.fields.is_op type.fields.is_f3) (rw (type.fields.is_rd, type.fields.is_rs1, type.is_imm range.2))
put_together w (Branch Beq r1 r2 imm) range is = branch_read 23 Beq w r1 r2 imm refl (omega arith) range is
put_together w (Branch Bne r1 r2 imm) range is = branch_read 24 Bne w r1 r2 imm refl (omega arith) range is
put_together w (Branch Blt r1 r2 imm) range is = branch_read 25 Blt w r1 r2 imm refl (omega arith) range is
put_together w (Branch Bge r1 r2 imm) range is = branch_read 26 Bge w r1 r2 imm refl (omega arith) range is
put_together w (Branch Bltu r1 r2 imm) range is = branch_read 27 Bltu w r1 r2 imm refl (omega arith) range is
put_together w (Branch Bgeu r1 r2 imm) range is = branch_read 28 Bgeu w r1 r2 imm refl (omega arith) range is
put_together w (Load Lb d r1 imm) range is = load_read 29 Lb w d r1 imm refl (omega arith) range is
put_together w (Load Lh d r1 imm) range is = load_read 30 Lh w d r1 imm refl (omega arith) range is
put_together w (Load Lw d r1 imm) range is = load_read 31 Lw w d r1 imm refl (omega arith) range is
put_together w (Load Lbu d r1 imm) range is = load_read 32 Lbu w d r1 imm refl (omega arith) range is
put_together w (Load Lhu d r1 imm) range is = load_read 33 Lhu w d r1 imm refl (omega arith) range is
put_together w (Store Sb r1 r2 imm) range is = store_read 34 Sb w r1 r2 imm refl (omega arith) range is
put_together w (Store Sh r1 r2 imm) range is = store_read 35 Sh w r1 r2 imm refl (omega arith) range is
put_together w (Store Sw r1 r2 imm) range is = store_read 36 Sw w r1 r2 imm refl (omega arith) range is
put_together w (OpImm Addi d r1 imm) range is = imm_read 2 Addi w d r1 imm refl (omega arith) range.0 range.1 range.2 is
put_together w (OpImm Slli d r1 (pos n)) range is =
    let bits = slli_bits n (shift_amount n range.2) in
    shift_read 3 Slli w d r1 n 0 (pos n) refl (omega arith) range.0 range.1 bits.0 bits.1 is
put_together w (OpImm Slli d r1 (negsuc n)) range is = absurd (no_shift n range.2)
put_together w (OpImm Slti d r1 imm) range is = imm_read 4 Slti w d r1 imm refl (omega arith) range.0 range.1 range.2 is
put_together w (OpImm Sltiu d r1 imm) range is = imm_read 5 Sltiu w d r1 imm refl (omega arith) range.0 range.1 range.2 is
put_together w (OpImm Xori d r1 imm) range is = imm_read 6 Xori w d r1 imm refl (omega arith) range.0 range.1 range.2 is
put_together w (OpImm Srli d r1 (pos n)) range is =
    let bits = slli_bits n (shift_amount n range.2) in
    shift_read 7 Srli w d r1 n 0 (pos n) refl (omega arith) range.0 range.1 bits.0 bits.1 is
put_together w (OpImm Srli d r1 (negsuc n)) range is = absurd (no_shift n range.2)
put_together w (OpImm Srai d r1 (pos n)) range is =
    let bits = srai_bits n (shift_amount n range.2) in
    shift_read 8 Srai w d r1 n 32 (pos n +ℤ pos 1024) refl (omega arith) range.0 range.1 bits.0 bits.1 is
put_together w (OpImm Srai d r1 (negsuc n)) range is = absurd (no_shift n range.2)
put_together w (OpImm Ori d r1 imm) range is = imm_read 9 Ori w d r1 imm refl (omega arith) range.0 range.1 range.2 is
put_together w (OpImm Andi d r1 imm) range is = imm_read 10 Andi w d r1 imm refl (omega arith) range.0 range.1 range.2 is
put_together w (Op Add d r1 r2) range is = op_read 11 Add w d r1 r2 refl (omega arith) (omega arith) range is
put_together w (Op Sub d r1 r2) range is = op_read 12 Sub w d r1 r2 refl (omega arith) (omega arith) range is
put_together w (Op Sll d r1 r2) range is = op_read 13 Sll w d r1 r2 refl (omega arith) (omega arith) range is
put_together w (Op Slt d r1 r2) range is = op_read 14 Slt w d r1 r2 refl (omega arith) (omega arith) range is
put_together w (Op Sltu d r1 r2) range is = op_read 15 Sltu w d r1 r2 refl (omega arith) (omega arith) range is
put_together w (Op Xor d r1 r2) range is = op_read 16 Xor w d r1 r2 refl (omega arith) (omega arith) range is
put_together w (Op Srl d r1 r2) range is = op_read 17 Srl w d r1 r2 refl (omega arith) (omega arith) range is
put_together w (Op Sra d r1 r2) range is = op_read 18 Sra w d r1 r2 refl (omega arith) (omega arith) range is
put_together w (Op Or d r1 r2) range is = op_read 19 Or w d r1 r2 refl (omega arith) (omega arith) range is
put_together w (Op And d r1 r2) range is = op_read 20 And w d r1 r2 refl (omega arith) (omega arith) range is
put_together w (Amo Amoadd d r1 r2 a r) range is = amo_read 40 Amoadd w d r1 r2 a r refl (omega arith) range is
put_together w (Amo Amoswap d r1 r2 a r) range is = amo_read 41 Amoswap w d r1 r2 a r refl (omega arith) range is
put_together w (Amo Amoxor d r1 r2 a r) range is = amo_read 42 Amoxor w d r1 r2 a r refl (omega arith) range is
put_together w (Amo Amoor d r1 r2 a r) range is = amo_read 43 Amoor w d r1 r2 a r refl (omega arith) range is
put_together w (Amo Amoand d r1 r2 a r) range is = amo_read 44 Amoand w d r1 r2 a r refl (omega arith) range is
put_together w (Amo Amomin d r1 r2 a r) range is = amo_read 45 Amomin w d r1 r2 a r refl (omega arith) range is
put_together w (Amo Amomax d r1 r2 a r) range is = amo_read 46 Amomax w d r1 r2 a r refl (omega arith) range is
put_together w (Amo Amominu d r1 r2 a r) range is = amo_read 47 Amominu w d r1 r2 a r refl (omega arith) range is
put_together w (Amo Amomaxu d r1 r2 a r) range is = amo_read 48 Amomaxu w d r1 r2 a r refl (omega arith) range is
put_together w (Fence word) range is =
    read_as 37 (record { fixed = opcode 0b0001111 ∷ funct3 0b000 ∷ []; reads = λ v. Fence v }) w (Fence word) refl (rw is range.0) (rw is range.1) (rw is refl)
put_together w Ecall range is = read_as 38 (system_row 0 Ecall) w Ecall refl (rw is (omega arith)) (rw is refl) refl
put_together w Ebreak range is = read_as 39 (system_row 1 Ebreak) w Ebreak refl (rw is (omega arith)) (rw is refl) refl
