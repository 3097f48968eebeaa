-- What an access to memory reads and writes, on the bytes at its address.
use Rattle.std.specs.Prelude.{ℕ, ◌+◌, List, if◌then◌else◌, nat_lt, bit_and, bit_or, bit_xor}
use Rattle.pmsi_model.specs.declared.AccessOp.{AccessOp}
use Rattle.pmsi_model.specs.declared.AccessOp.TheVariants.{Load, Store, Amo}
use Rattle.pmsi_model.specs.declared.Kind.{Kind}
use Rattle.pmsi_model.specs.declared.Kind.TheVariants.{Read, Write}
use Rattle.pmsi_model.specs.declared.instr.LoadOp.{LoadOp}
use Rattle.pmsi_model.specs.declared.instr.LoadOp.TheVariants.{Lb, Lh, Lw, Lbu, Lhu}
use Rattle.pmsi_model.specs.declared.instr.StoreOp.{StoreOp}
use Rattle.pmsi_model.specs.declared.instr.StoreOp.TheVariants.{Sb, Sh, Sw}
use Rattle.pmsi_model.specs.declared.instr.AmoOp.{AmoOp}
use Rattle.pmsi_model.specs.declared.instr.AmoOp.TheVariants.{Amoadd, Amoswap, Amoxor, Amoor, Amoand, Amomin, Amomax, Amominu, Amomaxu}
use Rattle.pmsi_model.specs.Words.{wrapped, word_of, signed, number_of, bytes_of, is_below_signed}

-- the bytes that an access covers
abbrev pub load_width : LoadOp → ℕ
load_width Lb = 1
load_width Lbu = 1
load_width Lh = 2
load_width Lhu = 2
load_width Lw = 4

abbrev pub store_width : StoreOp → ℕ
store_width Sb = 1
store_width Sh = 2
store_width Sw = 4

abbrev pub width_of : AccessOp → ℕ
width_of (Load op) = load_width op
width_of (Store op) = store_width op
width_of (Amo op) = 4

abbrev pub kind_of : AccessOp → Kind
kind_of (Load op) = Read
kind_of (Store op) = Write
kind_of (Amo op) = Write

-- the value that a load gives, sign-extended or zero-extended (section 2.6 of the RISC-V Unprivileged ISA)
abbrev pub load_value : LoadOp → List ℕ → ℕ
load_value Lb bytes = word_of (signed 8 (number_of bytes))
load_value Lh bytes = word_of (signed 16 (number_of bytes))
load_value Lw bytes = number_of bytes
load_value Lbu bytes = number_of bytes
load_value Lhu bytes = number_of bytes

-- the word that an AMO leaves, from the old word and the operand (section 8.4)
abbrev pub amo_word : AmoOp → ℕ → ℕ → ℕ
amo_word Amoadd old operand = wrapped (old + operand)
amo_word Amoswap old operand = operand
amo_word Amoxor old operand = bit_xor old operand
amo_word Amoor old operand = bit_or old operand
amo_word Amoand old operand = bit_and old operand
amo_word Amomin old operand = if is_below_signed old operand then old else operand
amo_word Amomax old operand = if is_below_signed old operand then operand else old
amo_word Amominu old operand = if nat_lt old operand then old else operand
amo_word Amomaxu old operand = if nat_lt old operand then operand else old

-- the value given to rd; a store gives none: its rd is x0, and its value 0
abbrev pub access_value : AccessOp → List ℕ → ℕ
access_value (Load op) bytes = load_value op bytes
access_value (Store op) bytes = 0
access_value (Amo op) bytes = number_of bytes

-- the new bytes
abbrev pub access_bytes : AccessOp → ℕ → List ℕ → List ℕ
access_bytes (Load op) operand bytes = bytes
access_bytes (Store op) operand bytes = bytes_of (store_width op) operand
access_bytes (Amo op) operand bytes = bytes_of 4 (amo_word op (number_of bytes) operand)
