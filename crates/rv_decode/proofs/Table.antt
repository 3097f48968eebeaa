-- The instruction table by opcode: a word is read by the rows with its opcode alone.
use Rattle.std.proofs.Common.{◌≡◌, ◌≢◌, ℕ, ◌^◌, ◌<◌, ◌+◌, ◌*◌, List, [], ◌∷◌, Some, None, Bool, true, false, ◌==◌, ◌&&◌, refl, arith}
use Rattle.std.specs.Prelude.{if◌then◌else◌}
use Rattle.pmsi_model.specs.declared.instr.Instr.TheVariants.{Lui, Auipc, Jal, Ecall, Ebreak}
use Rattle.pmsi_model.specs.Words.{bits_at}
use Rattle.pmsi_model.specs.Instruction.{Field, Encoding, read_by, instruction_rows, instr_of, rd, imm_u, imm_j}

-- the first field is the opcode, with this value
abbrev has_opcode : ℕ → List Field → Bool
has_opcode value [] = false
has_opcode value (field ∷ fields) = (field.low == 0) && (field.count == 7) && (field.value == value)

abbrev with_opcode : ℕ → List Encoding → List Encoding
with_opcode value [] = []
with_opcode value (row ∷ rows) = if has_opcode value row.fixed then row ∷ with_opcode value rows else with_opcode value rows

abbrev rows_of : ℕ → List Encoding
rows_of value = with_opcode value instruction_rows

pub lui_row : (word : ℕ) → bits_at 0 7 word ≡ 0b0110111 → instr_of word ≡ Some (Lui (rd word) (imm_u word))
unfolding instr_of
lui_row word o = rw o refl

pub auipc_row : (word : ℕ) → bits_at 0 7 word ≡ 0b0010111 → instr_of word ≡ Some (Auipc (rd word) (imm_u word))
unfolding instr_of
auipc_row word o = rw o refl

pub jal_row : (word : ℕ) → bits_at 0 7 word ≡ 0b1101111 → instr_of word ≡ Some (Jal (rd word) (imm_j word))
unfolding instr_of
jal_row word o = rw o refl

pub jalr_rows : (word : ℕ) → bits_at 0 7 word ≡ 0b1100111 → instr_of word ≡ read_by (rows_of 0b1100111) word
unfolding instr_of
jalr_rows word o = rw o refl

pub branch_rows : (word : ℕ) → bits_at 0 7 word ≡ 0b1100011 → instr_of word ≡ read_by (rows_of 0b1100011) word
unfolding instr_of
branch_rows word o = rw o refl

pub load_rows : (word : ℕ) → bits_at 0 7 word ≡ 0b0000011 → instr_of word ≡ read_by (rows_of 0b0000011) word
unfolding instr_of
load_rows word o = rw o refl

pub store_rows : (word : ℕ) → bits_at 0 7 word ≡ 0b0100011 → instr_of word ≡ read_by (rows_of 0b0100011) word
unfolding instr_of
store_rows word o = rw o refl

pub op_imm_rows : (word : ℕ) → bits_at 0 7 word ≡ 0b0010011 → instr_of word ≡ read_by (rows_of 0b0010011) word
unfolding instr_of
op_imm_rows word o = rw o refl

pub op_rows : (word : ℕ) → bits_at 0 7 word ≡ 0b0110011 → instr_of word ≡ read_by (rows_of 0b0110011) word
unfolding instr_of
op_rows word o = rw o refl

pub amo_rows : (word : ℕ) → bits_at 0 7 word ≡ 0b0101111 → instr_of word ≡ read_by (rows_of 0b0101111) word
unfolding instr_of
amo_rows word o = rw o refl

pub misc_mem_rows : (word : ℕ) → bits_at 0 7 word ≡ 0b0001111 → instr_of word ≡ read_by (rows_of 0b0001111) word
unfolding instr_of
misc_mem_rows word o = rw o refl

system_read_by : (word : ℕ) → bits_at 0 7 word ≡ 0b1110011 → instr_of word ≡ read_by (rows_of 0b1110011) word
unfolding instr_of
system_read_by word o = rw o refl

and_false : (b : Bool) → (b && false) ≡ false
and_false true = refl
and_false false = refl

eqb_no : (m n : ℕ) → m ≢ n → (m == n) ≡ false
eqb_no m n other = grind arith

-- an operation on two registers has one of two values of funct7
pub no_op : (word : ℕ) → bits_at 0 7 word ≡ 0b0110011 → bits_at 25 7 word ≢ 0b0000000 → bits_at 25 7 word ≢ 0b0100000 → instr_of word ≡ None
no_op word o base alternate = rw (op_rows word o, o, eqb_no (bits_at 25 7 word) 0 base, eqb_no (bits_at 25 7 word) 32 alternate) (simp and_false)

-- an AMO on words has one of nine values of funct5
pub no_amo : (word : ℕ) → bits_at 0 7 word ≡ 0b0101111 → bits_at 12 3 word ≡ 0b010 → bits_at 27 5 word ≢ 0b00000 → bits_at 27 5 word ≢ 0b00001 → bits_at 27 5 word ≢ 0b00100
    → bits_at 27 5 word ≢ 0b01000 → bits_at 27 5 word ≢ 0b01100 → bits_at 27 5 word ≢ 0b10000 → bits_at 27 5 word ≢ 0b10100 → bits_at 27 5 word ≢ 0b11000 → bits_at 27 5 word ≢ 0b11100 → instr_of word ≡ None
no_amo word o f3 add swap xor or_ and_ min_ max_ minu maxu =
    rw (
      amo_rows word o,
      o,
      f3,
      eqb_no (bits_at 27 5 word) 0b00000 add,
      eqb_no (bits_at 27 5 word) 0b00001 swap,
      eqb_no (bits_at 27 5 word) 0b00100 xor,
      eqb_no (bits_at 27 5 word) 0b01000 or_,
      eqb_no (bits_at 27 5 word) 0b01100 and_,
      eqb_no (bits_at 27 5 word) 0b10000 min_,
      eqb_no (bits_at 27 5 word) 0b10100 max_,
      eqb_no (bits_at 27 5 word) 0b11000 minu,
      eqb_no (bits_at 27 5 word) 0b11100 maxu,
    ) refl

pub ecall_row : instr_of 0x00000073 ≡ Some Ecall
unfolding instr_of
ecall_row = refl

pub ebreak_row : instr_of 0x00100073 ≡ Some Ebreak
unfolding instr_of
ebreak_row = refl

-- a word below 2 ^ 32 by its fields, where those between the opcode and funct12 are zero
by_fields : (word f12 : ℕ) → word < 2 ^ 32 → bits_at 0 7 word ≡ 0b1110011 → bits_at 7 5 word ≡ 0 → bits_at 12 3 word ≡ 0 → bits_at 15 5 word ≡ 0 → bits_at 20 12 word ≡ f12 → word ≡ f12 * 2 ^ 20 + 0b1110011
by_fields word f12 within o d f r g = omega arith

pub no_system : (word : ℕ) → word < 2 ^ 32 → bits_at 0 7 word ≡ 0b1110011 → word ≢ 0x00000073 → word ≢ 0x00100073 → instr_of word ≡ None
no_system word within o no_ecall no_ebreak = rw (system_read_by word o) (grind (arith, by_fields word 0 within, by_fields word 1 within))

pub no_opcode : (word : ℕ) → bits_at 0 7 word ≢ 0b0110111 → bits_at 0 7 word ≢ 0b0010111 → bits_at 0 7 word ≢ 0b1101111 → bits_at 0 7 word ≢ 0b1100111
    → bits_at 0 7 word ≢ 0b1100011 → bits_at 0 7 word ≢ 0b0000011 → bits_at 0 7 word ≢ 0b0100011 → bits_at 0 7 word ≢ 0b0010011 → bits_at 0 7 word ≢ 0b0110011
    → bits_at 0 7 word ≢ 0b0101111 → bits_at 0 7 word ≢ 0b0001111 → bits_at 0 7 word ≢ 0b1110011 → instr_of word ≡ None
unfolding instr_of
no_opcode word lui auipc jal jalr branch load store op_imm op amo misc_mem system =
    rw (
      eqb_no (bits_at 0 7 word) 0b0110111 lui,
      eqb_no (bits_at 0 7 word) 0b0010111 auipc,
      eqb_no (bits_at 0 7 word) 0b1101111 jal,
      eqb_no (bits_at 0 7 word) 0b1100111 jalr,
      eqb_no (bits_at 0 7 word) 0b1100011 branch,
      eqb_no (bits_at 0 7 word) 0b0000011 load,
      eqb_no (bits_at 0 7 word) 0b0100011 store,
      eqb_no (bits_at 0 7 word) 0b0010011 op_imm,
      eqb_no (bits_at 0 7 word) 0b0110011 op,
      eqb_no (bits_at 0 7 word) 0b0101111 amo,
      eqb_no (bits_at 0 7 word) 0b0001111 misc_mem,
      eqb_no (bits_at 0 7 word) 0b1110011 system,
    ) refl

-- what the functions of the decoder take of these
pub ruleset reg_op_rows = (op_rows, no_op)

pub ruleset amo_op_rows = (amo_rows, no_amo)

pub ruleset system_rows = (ecall_row, ebreak_row, no_system)

pub ruleset decode_rows = (lui_row, auipc_row, jal_row, no_opcode)
