-- The bytes that data names, by their addresses.
use Rattle.std.specs.Prelude.{◌≡◌, ℕ, ◌+◌, ◌-◌, nat_le, nat_lt, ◌&&◌, if◌then◌else◌, List, length, map, slice_get, Option, Some, None}
use Rattle.pmsi_model.specs.declared.image.Piece.{Piece}
use Rattle.asm_parse.specs.Assembly.{byte_at}

abbrev pub flat : Option (Option ℕ) → Option ℕ
flat None = None
flat (Some byte) = byte

-- the byte at an address, if one is named there
unfoldable pub byte_of : List (Option ℕ) → ℕ → Option ℕ
byte_of memory address = flat (slice_get memory address)

-- bytes are put from an address on
abbrev pub Overwrites : List (Option ℕ) → List (Option ℕ) → ℕ → List ℕ → Type 0
Overwrites old new at bytes =
    (address : ℕ)
    → byte_of new address ≡ (if nat_le at address && nat_lt address (at + length bytes) then slice_get bytes (address - at) else byte_of old address)

-- the bytes of a range are named, and are 0 so far
abbrev pub NamesBytes : List (Option ℕ) → List (Option ℕ) → ℕ → ℕ → Type 0
NamesBytes old new from count =
    (address : ℕ) → byte_of new address ≡ (if nat_le from address && nat_lt address (from + count) then Some 0 else byte_of old address)

-- the byte that pieces have at an address
abbrev pub piece_byte : List Piece → ℕ → Option ℕ
piece_byte pieces address = byte_at (map (λ piece. (piece.address, piece.bytes)) pieces) address
