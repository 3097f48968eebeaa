-- What one access finds and leaves.
use Rattle.std.proofs.Common.{◌≡◌, ℕ, ◌+◌, ◌-◌, ◌<◌, ◌≤◌, ◌&&◌, nat_le, nat_lt, if◌then◌else◌, List, [], ◌∷◌, All, length, get_or, refl, sym, ap, ◌∙◌, subst, arith}
use Rattle.pmsi_model.specs.declared.Access.{Access}
use Rattle.pmsi_model.specs.declared.Kind.{Kind}
use Rattle.pmsi_model.specs.declared.Kind.TheVariants.{Read, Write}
use Rattle.pmsi_model.specs.Words.{number_of}
use Rattle.pmsi_model.specs.Access.{width_of, kind_of, access_bytes}
use Rattle.pmsi_model.specs.Machine.{is_write}
use Rattle.pmsi_model.specs.Phase.{with_bytes, met_bytes, memory_after, touch_of}
use Rattle.pmsi_model.specs.Latest.{byte_of}
use Rattle.pmsi_model.proofs.Bytes.{byte_of_number_of, length-bytes_from, get_or-bytes_from, bytes_from_below, length-with_bytes, with_bytes_below, get_or-with_bytes, with_bytes_same}
use Rattle.pmsi_model.proofs.Accesses.{IsFit, access_size, access_below, read_keeps}
use Rattle.latest_laws.proofs.Follows.{Follows}

-- the bytes of memory after a write, by the number that the written bytes spell
written_left : (address : ℕ) (bytes memory : List ℕ) (at : ℕ) → address + length bytes ≤ length memory → All (λ byte. byte < 256) bytes →
    get_or (with_bytes address bytes memory) at 0 ≡ (if nat_le address at && nat_lt at (address + length bytes) then byte_of (number_of bytes) (at - address) else get_or memory at 0)
written_left address bytes memory at h below = get_or-with_bytes address bytes memory at h
    ∙ ap (λ (byte : ℕ). if nat_le address at && nat_lt at (address + length bytes) then byte else get_or memory at 0) (sym (byte_of_number_of bytes (at - address) below))

abbrev left_by : Kind → ℕ → ℕ → ℕ → ℕ → ℕ → ℕ
left_by kind address width new at byte = if is_write kind && (nat_le address at && nat_lt at (address + width)) then byte_of new (at - address) else byte

-- the same by the kind of the access
kind_left : (kind : Kind) (address width : ℕ) (bytes memory : List ℕ) (at : ℕ) → length bytes ≡ width → address + width ≤ length memory → All (λ byte. byte < 256) bytes →
    (kind ≡ Read → with_bytes address bytes memory ≡ memory) →
    get_or (with_bytes address bytes memory) at 0 ≡ left_by kind address width (number_of bytes) at (get_or memory at 0)
kind_left Read address width bytes memory at size h below keeps = ap (λ (m : List ℕ). get_or m at 0) (keeps refl)
kind_left Write address width bytes memory at size h below keeps =
    subst (λ (n : ℕ). get_or (with_bytes address bytes memory) at 0 ≡ left_by Write address n (number_of bytes) at (get_or memory at 0)) size (written_left address bytes memory at (omega arith) below)

pub access_follows : (slot c : ℕ) (access : Access) (memory : List ℕ) → All (λ byte. byte < 256) memory → IsFit (length memory) access →
    Follows memory (touch_of slot c access memory ∷ []) (memory_after access memory)
access_follows slot c access memory below fit =
    let width : ℕ = width_of access.op in
    let met : List ℕ = met_bytes access memory in
    let met_length : length met ≡ width = length-bytes_from access.address width memory fit.within in
    let met_below : All (λ byte. byte < 256) met = bytes_from_below access.address width memory below in
    let new : List ℕ = access_bytes access.op access.operand met in
    record {
      size = length-with_bytes access.address new memory;
      bytes = with_bytes_below access.address new memory (access_below access.op access.operand met met_below) below;
      left = λ at. kind_left (kind_of access.op) access.address width new memory at (access_size access.op access.operand met met_length) fit.within (access_below access.op access.operand met met_below)
          (λ reads. ap (λ (bs : List ℕ). with_bytes access.address bs memory) (read_keeps access.op access.operand met reads) ∙ with_bytes_same access.address width memory fit.within);
      takes = (
        λ place h. byte_of_number_of met place met_below ∙ get_or-bytes_from access.address width memory place h,
        λ reads. ap number_of (read_keeps access.op access.operand met reads),
        tt,
      );
    }
