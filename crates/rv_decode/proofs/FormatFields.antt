-- Words of each format: their fields, put together, are the word, and fields in range that are put together are read
-- back.
use Rattle.std.proofs.Common.{◌≡◌, ℕ, ◌+◌, ◌*◌, ◌%◌, ◌^◌, ◌<◌, ℤ, pos, ◌+ℤ◌, arith}
use Rattle.std.proofs.lemmas.Int.{ints}
use Rattle.pmsi_model.specs.Words.{bits_at, word_of, signed}
use Rattle.pmsi_model.specs.Instruction.{rd, rs1, rs2, imm_i, imm_s, imm_b, imm_u, imm_j, shamt}
use Rattle.rv_decode.specs.Ranges.{IsSigned, IsOffset, IsShift}
use Rattle.rv_decode.specs.Formats.{imm_bits, r_word, i_word, s_word, b_word, u_word, j_word}

-- a number of `count` bits is read as a signed one of `count` bits, which has its bits
signed_12 : (n : ℕ) → n < 4096 → word_of (signed 12 n) % 4096 ≡ n
signed_12 n within = grind (arith, ints)

signed_13 : (n : ℕ) → n < 8192 → word_of (signed 13 n) % 8192 ≡ n
signed_13 n within = grind (arith, ints)

signed_21 : (n : ℕ) → n < 2097152 → word_of (signed 21 n) % 2097152 ≡ n
signed_21 n within = grind (arith, ints)

in_12 : (n : ℕ) → n < 4096 → IsSigned 12 (signed 12 n)
in_12 n within = (grind (arith, ints), grind (arith, ints))

in_13 : (n : ℕ) → n < 8192 → IsSigned 13 (signed 13 n)
in_13 n within = (grind (arith, ints), grind (arith, ints))

in_21 : (n : ℕ) → n < 2097152 → IsSigned 21 (signed 21 n)
in_21 n within = (grind (arith, ints), grind (arith, ints))

back_12 : (z : ℤ) (n : ℕ) → IsSigned 12 z → n ≡ word_of z % 4096 → signed 12 n ≡ z
back_12 z n within is = grind (arith, ints)

back_13 : (z : ℤ) (n : ℕ) → IsSigned 13 z → n ≡ word_of z % 8192 → signed 13 n ≡ z
back_13 z n within is = grind (arith, ints)

back_21 : (z : ℤ) (n : ℕ) → IsSigned 21 z → n ≡ word_of z % 2097152 → signed 21 n ≡ z
back_21 z n within is = grind (arith, ints)

-- fields of each format, put together
pub r_fields : (w f7 f3 op : ℕ) → w < 2 ^ 32 → bits_at 25 7 w ≡ f7 → bits_at 12 3 w ≡ f3 → bits_at 0 7 w ≡ op → r_word f7 (rs2 w) (rs1 w) f3 (rd w) op ≡ w
r_fields w f7 f3 op within is_f7 is_f3 is_op = omega arith

pub u_fields : (w op : ℕ) → w < 2 ^ 32 → bits_at 0 7 w ≡ op → u_word (imm_u w) (rd w) op ≡ w
u_fields w op within is_op = omega arith

i_sum : (w m f3 op : ℕ) → w < 2 ^ 32 → bits_at 12 3 w ≡ f3 → bits_at 0 7 w ≡ op → m % 4096 ≡ 1 * bits_at 20 12 w + 0 →
    op + 2 ^ 7 * rd w + 2 ^ 12 * f3 + 2 ^ 15 * rs1 w + 2 ^ 20 * bits_at 0 12 m ≡ w
i_sum w m f3 op within is_f3 is_op is = omega arith

s_sum : (w m f3 op : ℕ) → w < 2 ^ 32 → bits_at 12 3 w ≡ f3 → bits_at 0 7 w ≡ op → m % 4096 ≡ 2 ^ 5 * bits_at 25 7 w + (1 * bits_at 7 5 w + 0) →
    op + 2 ^ 7 * bits_at 0 5 m + 2 ^ 12 * f3 + 2 ^ 15 * rs1 w + 2 ^ 20 * rs2 w + 2 ^ 25 * bits_at 5 7 m ≡ w
s_sum w m f3 op within is_f3 is_op is = omega arith

b_sum : (w m f3 op : ℕ) → w < 2 ^ 32 → bits_at 12 3 w ≡ f3 → bits_at 0 7 w ≡ op → m % 8192 ≡ 2 ^ 12 * bits_at 31 1 w + (2 ^ 11 * bits_at 7 1 w + (2 ^ 5 * bits_at 25 6 w + (2 * bits_at 8 4 w + 0))) →
    op + 2 ^ 7 * bits_at 11 1 m + 2 ^ 8 * bits_at 1 4 m + 2 ^ 12 * f3 + 2 ^ 15 * rs1 w + 2 ^ 20 * rs2 w + 2 ^ 25 * bits_at 5 6 m + 2 ^ 31 * bits_at 12 1 m ≡ w
b_sum w m f3 op within is_f3 is_op is = omega arith

j_sum : (w m op : ℕ) → w < 2 ^ 32 → bits_at 0 7 w ≡ op → m % 2097152 ≡ 2 ^ 20 * bits_at 31 1 w + (2 ^ 12 * bits_at 12 8 w + (2 ^ 11 * bits_at 20 1 w + (2 * bits_at 21 10 w + 0))) →
    op + 2 ^ 7 * rd w + 2 ^ 12 * bits_at 12 8 m + 2 ^ 20 * bits_at 11 1 m + 2 ^ 21 * bits_at 1 10 m + 2 ^ 31 * bits_at 20 1 m ≡ w
j_sum w m op within is_op is = omega arith

pub i_fields : (w f3 op : ℕ) → w < 2 ^ 32 → bits_at 12 3 w ≡ f3 → bits_at 0 7 w ≡ op → i_word (imm_i w) (rs1 w) f3 (rd w) op ≡ w
i_fields w f3 op within is_f3 is_op = i_sum w (word_of (imm_i w)) f3 op within is_f3 is_op (signed_12 (1 * bits_at 20 12 w + 0) (omega arith))

pub s_fields : (w f3 op : ℕ) → w < 2 ^ 32 → bits_at 12 3 w ≡ f3 → bits_at 0 7 w ≡ op → s_word (imm_s w) (rs2 w) (rs1 w) f3 op ≡ w
s_fields w f3 op within is_f3 is_op =
    s_sum w (word_of (imm_s w)) f3 op within is_f3 is_op (signed_12 (2 ^ 5 * bits_at 25 7 w + (1 * bits_at 7 5 w + 0)) (omega arith))

pub b_fields : (w f3 op : ℕ) → w < 2 ^ 32 → bits_at 12 3 w ≡ f3 → bits_at 0 7 w ≡ op → b_word (imm_b w) (rs2 w) (rs1 w) f3 op ≡ w
b_fields w f3 op within is_f3 is_op =
    b_sum w (word_of (imm_b w)) f3 op within is_f3 is_op
    (signed_13 (2 ^ 12 * bits_at 31 1 w + (2 ^ 11 * bits_at 7 1 w + (2 ^ 5 * bits_at 25 6 w + (2 * bits_at 8 4 w + 0)))) (omega arith))

pub j_fields : (w op : ℕ) → w < 2 ^ 32 → bits_at 0 7 w ≡ op → j_word (imm_j w) (rd w) op ≡ w
j_fields w op within is_op =
    j_sum w (word_of (imm_j w)) op within is_op
    (signed_21 (2 ^ 20 * bits_at 31 1 w + (2 ^ 12 * bits_at 12 8 w + (2 ^ 11 * bits_at 20 1 w + (2 * bits_at 21 10 w + 0)))) (omega arith))

pub shift_fields : (w f3 op : ℕ) → w < 2 ^ 32 → bits_at 25 7 w ≡ 0 → bits_at 12 3 w ≡ f3 → bits_at 0 7 w ≡ op → i_word (shamt w) (rs1 w) f3 (rd w) op ≡ w
shift_fields w f3 op within is_f7 is_f3 is_op = i_sum w (bits_at 20 5 w) f3 op within is_f3 is_op (omega arith)

-- srai keeps bit 10 above its shift amount
pub srai_fields : (w f3 op : ℕ) → w < 2 ^ 32 → bits_at 25 7 w ≡ 32 → bits_at 12 3 w ≡ f3 → bits_at 0 7 w ≡ op → i_word (shamt w +ℤ pos 1024) (rs1 w) f3 (rd w) op ≡ w
srai_fields w f3 op within is_f7 is_f3 is_op = i_sum w (bits_at 20 5 w + 1024) f3 op within is_f3 is_op (omega arith)

-- immediates that are read are in range
pub i_range : (w : ℕ) → IsSigned 12 (imm_i w)
i_range w = in_12 (1 * bits_at 20 12 w + 0) (omega arith)

pub s_range : (w : ℕ) → IsSigned 12 (imm_s w)
s_range w = in_12 (2 ^ 5 * bits_at 25 7 w + (1 * bits_at 7 5 w + 0)) (omega arith)

even : (m n : ℕ) → m % 8192 ≡ 2 * n → m % 2 ≡ 0
even m n is = omega arith

even_21 : (m n : ℕ) → m % 2097152 ≡ 2 * n → m % 2 ≡ 0
even_21 m n is = omega arith

pub b_range : (w : ℕ) → IsOffset 13 (imm_b w)
b_range w =
    let n : ℕ = 2 ^ 12 * bits_at 31 1 w + (2 ^ 11 * bits_at 7 1 w + (2 ^ 5 * bits_at 25 6 w + (2 * bits_at 8 4 w + 0))) in
    let within : n < 8192 = omega arith in
    (in_13 n within, even (word_of (signed 13 n)) (2 ^ 11 * bits_at 31 1 w + (2 ^ 10 * bits_at 7 1 w + (2 ^ 4 * bits_at 25 6 w + bits_at 8 4 w))) (omega (arith, signed_13 n within)))

pub j_range : (w : ℕ) → IsOffset 21 (imm_j w)
j_range w =
    let n : ℕ = 2 ^ 20 * bits_at 31 1 w + (2 ^ 12 * bits_at 12 8 w + (2 ^ 11 * bits_at 20 1 w + (2 * bits_at 21 10 w + 0))) in
    let within : n < 2097152 = omega arith in
    (in_21 n within, even_21 (word_of (signed 21 n)) (2 ^ 19 * bits_at 31 1 w + (2 ^ 11 * bits_at 12 8 w + (2 ^ 10 * bits_at 20 1 w + bits_at 21 10 w))) (omega (arith, signed_21 n within)))

pub shift_range : (w : ℕ) → IsShift (shamt w)
shift_range w = (grind (arith, ints), grind (arith, ints))

-- a word is put together from fields in range: the fields are read back
pub record IsRType (w f7 r2 r1 f3 d op : ℕ) : Type 0 where
  pub within : w < 2 ^ 32
  pub is_f7 : bits_at 25 7 w ≡ f7
  pub is_rs2 : rs2 w ≡ r2
  pub is_rs1 : rs1 w ≡ r1
  pub is_f3 : bits_at 12 3 w ≡ f3
  pub is_rd : rd w ≡ d
  pub is_op : bits_at 0 7 w ≡ op

pub r_read : (w f7 r2 r1 f3 d op : ℕ) → f7 < 128 → r2 < 32 → r1 < 32 → f3 < 8 → d < 32 → op < 128 → w ≡ r_word f7 r2 r1 f3 d op → IsRType w f7 r2 r1 f3 d op
r_read w f7 r2 r1 f3 d op in_f7 in_r2 in_r1 in_f3 in_d in_op is =
    record { within = omega arith; is_f7 = omega arith; is_rs2 = omega arith; is_rs1 = omega arith; is_f3 = omega arith; is_rd = omega arith; is_op = omega arith }

-- formats whose immediate is `m`, a number that has the bits of the immediate
i_as_r : (w m r1 f3 d op : ℕ) → r1 < 32 → f3 < 8 → d < 32 → op < 128 → w ≡ op + 2 ^ 7 * d + 2 ^ 12 * f3 + 2 ^ 15 * r1 + 2 ^ 20 * bits_at 0 12 m →
    IsRType w (bits_at 5 7 m) (bits_at 0 5 m) r1 f3 d op
i_as_r w m r1 f3 d op in_r1 in_f3 in_d in_op is =
    r_read w (bits_at 5 7 m) (bits_at 0 5 m) r1 f3 d op (omega arith) (omega arith) in_r1 in_f3 in_d in_op (omega arith)

i_bits : (w m r1 f3 d op : ℕ) → IsRType w (bits_at 5 7 m) (bits_at 0 5 m) r1 f3 d op → 1 * bits_at 20 12 w + 0 ≡ m % 4096
i_bits w m r1 f3 d op type = omega arith

pub record IsIType (w : ℕ) (imm : ℤ) (r1 f3 d op : ℕ) : Type 0 where
  pub fields : IsRType w (imm_bits 5 7 imm) (imm_bits 0 5 imm) r1 f3 d op
  pub is_imm : IsSigned 12 imm → imm_i w ≡ imm

pub i_read : (w : ℕ) (imm : ℤ) (r1 f3 d op : ℕ) → r1 < 32 → f3 < 8 → d < 32 → op < 128 → w ≡ i_word imm r1 f3 d op → IsIType w imm r1 f3 d op
i_read w imm r1 f3 d op in_r1 in_f3 in_d in_op is =
    let fields : IsRType w (imm_bits 5 7 imm) (imm_bits 0 5 imm) r1 f3 d op = i_as_r w (word_of imm) r1 f3 d op in_r1 in_f3 in_d in_op is in
    record { fields = fields; is_imm = λ within. back_12 imm (1 * bits_at 20 12 w + 0) within (i_bits w (word_of imm) r1 f3 d op fields) }

s_bits : (w m r2 r1 f3 op : ℕ) → IsRType w (bits_at 5 7 m) r2 r1 f3 (bits_at 0 5 m) op → 2 ^ 5 * bits_at 25 7 w + (1 * bits_at 7 5 w + 0) ≡ m % 4096
s_bits w m r2 r1 f3 op type = omega arith

pub record IsSType (w : ℕ) (imm : ℤ) (r2 r1 f3 op : ℕ) : Type 0 where
  pub fields : IsRType w (imm_bits 5 7 imm) r2 r1 f3 (imm_bits 0 5 imm) op
  pub is_imm : imm_s w ≡ imm

pub s_read : (w : ℕ) (imm : ℤ) (r2 r1 f3 op : ℕ) → IsSigned 12 imm → r2 < 32 → r1 < 32 → f3 < 8 → op < 128 → w ≡ s_word imm r2 r1 f3 op → IsSType w imm r2 r1 f3 op
s_read w imm r2 r1 f3 op in_imm in_r2 in_r1 in_f3 in_op is =
    let fields : IsRType w (imm_bits 5 7 imm) r2 r1 f3 (imm_bits 0 5 imm) op =
    r_read w (imm_bits 5 7 imm) r2 r1 f3 (imm_bits 0 5 imm) op (omega arith) in_r2 in_r1 in_f3 (omega arith) in_op (omega arith) in
    record { fields = fields; is_imm = back_12 imm (2 ^ 5 * bits_at 25 7 w + (1 * bits_at 7 5 w + 0)) in_imm (s_bits w (word_of imm) r2 r1 f3 op fields) }

b_as_r : (w m r2 r1 f3 op : ℕ) → r2 < 32 → r1 < 32 → f3 < 8 → op < 128 →
    w ≡ op + 2 ^ 7 * bits_at 11 1 m + 2 ^ 8 * bits_at 1 4 m + 2 ^ 12 * f3 + 2 ^ 15 * r1 + 2 ^ 20 * r2 + 2 ^ 25 * bits_at 5 6 m + 2 ^ 31 * bits_at 12 1 m →
    IsRType w (bits_at 5 6 m + 2 ^ 6 * bits_at 12 1 m) r2 r1 f3 (bits_at 11 1 m + 2 * bits_at 1 4 m) op
b_as_r w m r2 r1 f3 op in_r2 in_r1 in_f3 in_op is =
    r_read w (bits_at 5 6 m + 2 ^ 6 * bits_at 12 1 m) r2 r1 f3 (bits_at 11 1 m + 2 * bits_at 1 4 m) op (omega arith) in_r2 in_r1 in_f3 (omega arith) in_op (omega arith)

b_bits : (w m r2 r1 f3 op : ℕ) → m % 2 ≡ 0 → IsRType w (bits_at 5 6 m + 2 ^ 6 * bits_at 12 1 m) r2 r1 f3 (bits_at 11 1 m + 2 * bits_at 1 4 m) op →
    2 ^ 12 * bits_at 31 1 w + (2 ^ 11 * bits_at 7 1 w + (2 ^ 5 * bits_at 25 6 w + (2 * bits_at 8 4 w + 0))) ≡ m % 8192
b_bits w m r2 r1 f3 op is_even type = omega arith

pub record IsBType (w : ℕ) (imm : ℤ) (r2 r1 f3 op : ℕ) : Type 0 where
  pub fields : IsRType w (imm_bits 5 6 imm + 2 ^ 6 * imm_bits 12 1 imm) r2 r1 f3 (imm_bits 11 1 imm + 2 * imm_bits 1 4 imm) op
  pub is_imm : imm_b w ≡ imm

pub b_read : (w : ℕ) (imm : ℤ) (r2 r1 f3 op : ℕ) → IsOffset 13 imm → r2 < 32 → r1 < 32 → f3 < 8 → op < 128 → w ≡ b_word imm r2 r1 f3 op → IsBType w imm r2 r1 f3 op
b_read w imm r2 r1 f3 op in_imm in_r2 in_r1 in_f3 in_op is =
    let fields : IsRType w (imm_bits 5 6 imm + 2 ^ 6 * imm_bits 12 1 imm) r2 r1 f3 (imm_bits 11 1 imm + 2 * imm_bits 1 4 imm) op =
    b_as_r w (word_of imm) r2 r1 f3 op in_r2 in_r1 in_f3 in_op is in
    record { fields = fields; is_imm = back_13 imm (2 ^ 12 * bits_at 31 1 w + (2 ^ 11 * bits_at 7 1 w + (2 ^ 5 * bits_at 25 6 w + (2 * bits_at 8 4 w + 0)))) in_imm.0 (b_bits w (word_of imm) r2 r1 f3 op in_imm.1 fields) }

pub record IsUType (w imm d op : ℕ) : Type 0 where
  pub within : w < 2 ^ 32
  pub is_imm : imm_u w ≡ imm
  pub is_rd : rd w ≡ d
  pub is_op : bits_at 0 7 w ≡ op

pub u_read : (w imm d op : ℕ) → imm < 2 ^ 20 → d < 32 → op < 128 → w ≡ u_word imm d op → IsUType w imm d op
u_read w imm d op in_imm in_d in_op is = record { within = omega arith; is_imm = omega arith; is_rd = omega arith; is_op = omega arith }

j_as_u : (w m d op : ℕ) → d < 32 → op < 128 → w ≡ op + 2 ^ 7 * d + 2 ^ 12 * bits_at 12 8 m + 2 ^ 20 * bits_at 11 1 m + 2 ^ 21 * bits_at 1 10 m + 2 ^ 31 * bits_at 20 1 m →
    IsUType w (bits_at 12 8 m + 2 ^ 8 * bits_at 11 1 m + 2 ^ 9 * bits_at 1 10 m + 2 ^ 19 * bits_at 20 1 m) d op
j_as_u w m d op in_d in_op is = u_read w (bits_at 12 8 m + 2 ^ 8 * bits_at 11 1 m + 2 ^ 9 * bits_at 1 10 m + 2 ^ 19 * bits_at 20 1 m) d op (omega arith) in_d in_op (omega arith)

j_bits : (w m d op : ℕ) → m % 2 ≡ 0 → IsUType w (bits_at 12 8 m + 2 ^ 8 * bits_at 11 1 m + 2 ^ 9 * bits_at 1 10 m + 2 ^ 19 * bits_at 20 1 m) d op →
    2 ^ 20 * bits_at 31 1 w + (2 ^ 12 * bits_at 12 8 w + (2 ^ 11 * bits_at 20 1 w + (2 * bits_at 21 10 w + 0))) ≡ m % 2097152
j_bits w m d op is_even type = omega arith

pub record IsJType (w : ℕ) (imm : ℤ) (d op : ℕ) : Type 0 where
  pub fields : IsUType w (imm_bits 12 8 imm + 2 ^ 8 * imm_bits 11 1 imm + 2 ^ 9 * imm_bits 1 10 imm + 2 ^ 19 * imm_bits 20 1 imm) d op
  pub is_imm : imm_j w ≡ imm

pub j_read : (w : ℕ) (imm : ℤ) (d op : ℕ) → IsOffset 21 imm → d < 32 → op < 128 → w ≡ j_word imm d op → IsJType w imm d op
j_read w imm d op in_imm in_d in_op is =
    let fields : IsUType w (imm_bits 12 8 imm + 2 ^ 8 * imm_bits 11 1 imm + 2 ^ 9 * imm_bits 1 10 imm + 2 ^ 19 * imm_bits 20 1 imm) d op =
    j_as_u w (word_of imm) d op in_d in_op is in
    record { fields = fields; is_imm = back_21 imm (2 ^ 20 * bits_at 31 1 w + (2 ^ 12 * bits_at 12 8 w + (2 ^ 11 * bits_at 20 1 w + (2 * bits_at 21 10 w + 0)))) in_imm.0 (j_bits w (word_of imm) d op in_imm.1 fields) }
