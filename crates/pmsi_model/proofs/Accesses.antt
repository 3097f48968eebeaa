-- What one access meets and leaves in memory.
use Rattle.std.proofs.Common.{◌≡◌, ◌≢◌, ℕ, ◌+◌, ◌%◌, ◌<◌, ◌≤◌, List, length, All, Option, None, true, refl, ap, ◌∙◌, arith}
use Rattle.pmsi_model.specs.declared.Access.{Access}
use Rattle.pmsi_model.specs.declared.AccessOp.{AccessOp}
use Rattle.pmsi_model.specs.declared.AccessOp.TheVariants.{Load, Store, Amo}
use Rattle.pmsi_model.specs.declared.Kind.{Kind}
use Rattle.pmsi_model.specs.declared.Kind.TheVariants.{Read, Write}
use Rattle.pmsi_model.specs.declared.Mode.{Mode}
use Rattle.pmsi_model.specs.declared.instr.LoadOp.TheVariants.{Lb, Lh, Lw, Lbu, Lhu}
use Rattle.pmsi_model.specs.declared.instr.StoreOp.TheVariants.{Sb, Sh, Sw}
use Rattle.pmsi_model.specs.Words.{number_of}
use Rattle.pmsi_model.specs.Access.{width_of, kind_of, store_width, access_bytes, amo_word}
use Rattle.pmsi_model.specs.Phase.{permits, with_bytes, met_bytes, memory_after}
use Rattle.pmsi_model.proofs.Bytes.{length-bytes_from, bytes_from_below, length-with_bytes, with_bytes_below, length-bytes_of, bytes_of_below, with_bytes_same}

-- ---- an access that is aligned, and within a memory of this size

pub record IsFit (size : ℕ) (access : Access) : Type 0 where
  pub aligned : access.address % width_of access.op ≡ 0
  pub within : access.address + width_of access.op ≤ size

-- it lies within an aligned word
pub lane_fits : (op : AccessOp) (a : ℕ) → a % width_of op ≡ 0 → a % 4 + width_of op ≤ 4
lane_fits (Load Lb) a h = omega arith
lane_fits (Load Lbu) a h = omega arith
lane_fits (Load Lh) a h = omega arith
lane_fits (Load Lhu) a h = omega arith
lane_fits (Load Lw) a h = omega arith
lane_fits (Store Sb) a h = omega arith
lane_fits (Store Sh) a h = omega arith
lane_fits (Store Sw) a h = omega arith
lane_fits (Amo op) a h = omega arith

-- the new bytes are as many as those met, and are bytes
pub access_size : (op : AccessOp) (operand : ℕ) (bytes : List ℕ) → length bytes ≡ width_of op → length (access_bytes op operand bytes) ≡ width_of op
access_size (Load op) operand bytes size = size
access_size (Store op) operand bytes size = length-bytes_of (store_width op) operand
access_size (Amo op) operand bytes size = length-bytes_of 4 (amo_word op (number_of bytes) operand)

pub access_below : (op : AccessOp) (operand : ℕ) (bytes : List ℕ) → All (λ byte. byte < 256) bytes → All (λ byte. byte < 256) (access_bytes op operand bytes)
access_below (Load op) operand bytes small = small
access_below (Store op) operand bytes small = bytes_of_below (store_width op) operand
access_below (Amo op) operand bytes small = bytes_of_below 4 (amo_word op (number_of bytes) operand)

-- a read leaves what it met
pub read_keeps : (op : AccessOp) (operand : ℕ) (bytes : List ℕ) → kind_of op ≡ Read → access_bytes op operand bytes ≡ bytes
read_keeps (Load op) operand bytes h = refl
read_keeps (Store op) operand bytes h = absurd (cc)
read_keeps (Amo op) operand bytes h = absurd (cc)

-- memory keeps its size, and its bytes are bytes
pub length-memory_after : (access : Access) (memory : List ℕ) → length (memory_after access memory) ≡ length memory
length-memory_after access memory = length-with_bytes access.address (access_bytes access.op access.operand (met_bytes access memory)) memory

pub memory_after_below : (access : Access) (memory : List ℕ) → All (λ byte. byte < 256) memory → All (λ byte. byte < 256) (memory_after access memory)
memory_after_below access memory small = with_bytes_below access.address (access_bytes access.op access.operand (met_bytes access memory)) memory
    (access_below access.op access.operand (met_bytes access memory) (bytes_from_below access.address (width_of access.op) memory small)) small

pub new_size : (access : Access) (memory : List ℕ) → IsFit (length memory) access → length (access_bytes access.op access.operand (met_bytes access memory)) ≡ width_of access.op
new_size access memory fit = access_size access.op access.operand (met_bytes access memory) (length-bytes_from access.address (width_of access.op) memory fit.within)

-- a read changes no byte
pub read_after : (access : Access) (memory : List ℕ) → IsFit (length memory) access → kind_of access.op ≡ Read → memory_after access memory ≡ memory
read_after access memory fit reads = ap (λ (bytes : List ℕ). with_bytes access.address bytes memory) (read_keeps access.op access.operand (met_bytes access memory) reads)
    ∙ with_bytes_same access.address (width_of access.op) memory fit.within

-- ---- permission

-- an access that has permission finds its line held
pub granted_held : (kind : Kind) (mode : Option Mode) → permits kind mode ≡ true → mode ≢ None
granted_held Read mode granted none = grind arith
granted_held Write mode granted none = grind arith
