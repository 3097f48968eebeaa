-- The checks of bytes that are to be an image, in their order. The first that fails tells the fault.
use Rattle.std.specs.Prelude.{◌≡◌, ℕ, zero, suc, ◌+◌, ◌*◌, Bool, not, ◌||◌, ◌==◌, nat_lt, List, [], ◌∷◌, ◌++◌, length, drop, Option, Some, None, if◌then◌else◌}
use Rattle.std.specs.List.{flat_map, range_with_len, starts_with}
use Rattle.byteorder.specs.Endian.{little_number}
use Rattle.pmsi_model.specs.declared.limits.TheConstants.{MAX_TEXT_WORDS, MAX_MEMORY}
use Rattle.image_file.specs.declared.format.TheConstants.{HEADER_BYTES, PIECE_HEADER_BYTES}
use Rattle.image_file.specs.declared.fault.ImageFault.{ImageFault}
use Rattle.image_file.specs.declared.fault.ImageFault.TheVariants as faults
use Rattle.image_file.specs.Format.{magic}

-- a check: whether it fails, and its fault
pub record Check : Type 0 where
  pub fails : Bool
  pub fault : ImageFault

-- ---- what stands where. Places are counted from the first byte

-- the number in the four bytes from a place on, lowest first
unfoldable pub number_at : List ℕ → ℕ → ℕ
number_at bytes place = little_number 4 (drop place bytes)

-- how many words of text there are, and how many pieces
abbrev pub word_count : List ℕ → ℕ
word_count bytes = number_at bytes 8

abbrev pub piece_count : List ℕ → ℕ
piece_count bytes = number_at bytes 12

-- where the words end
abbrev pub text_end : List ℕ → ℕ
text_end bytes = HEADER_BYTES + 4 * word_count bytes

-- where the header of piece i begins: behind the words, and the headers and bytes of the pieces before
unfoldable pub piece_place : List ℕ → ℕ → ℕ
piece_place bytes zero = text_end bytes
piece_place bytes (suc i) = (piece_place bytes i + PIECE_HEADER_BYTES) + number_at bytes (piece_place bytes i + 4)

abbrev pub address_of : List ℕ → ℕ → ℕ
address_of bytes i = number_at bytes (piece_place bytes i)

abbrev pub length_of : List ℕ → ℕ → ℕ
length_of bytes i = number_at bytes (piece_place bytes i + 4)

abbrev pub end_of : List ℕ → ℕ → ℕ
end_of bytes i = address_of bytes i + length_of bytes i

-- the least address that piece i may have: one above the end of the piece before
unfoldable pub least_address : List ℕ → ℕ → ℕ
least_address bytes zero = 0
least_address bytes (suc i) = end_of bytes i + 1

-- ---- the checks. Each comment says what passes

-- so many bytes are there
abbrev pub too_short : List ℕ → ℕ → Check
too_short bytes needed = record { fails = nat_lt (length bytes) needed; fault = faults.Short needed (length bytes) }

-- the header is there; it begins as an image; no more words than a text may have; the words are there
unfoldable pub header_checks : List ℕ → List Check
header_checks bytes =
    too_short bytes HEADER_BYTES
    ∷ record { fails = not (starts_with (λ a b. a == b) bytes magic); fault = faults.Magic }
    ∷ record { fails = nat_lt MAX_TEXT_WORDS (word_count bytes); fault = faults.Limit (word_count bytes) }
    ∷ too_short bytes (text_end bytes)
    ∷ []

-- the header of piece i is there; it has a byte, and no more than memory; it ends within memory; it leaves a gap behind
-- the piece before; its bytes are there
unfoldable pub piece_checks : List ℕ → ℕ → List Check
piece_checks bytes i =
    too_short bytes (piece_place bytes i + PIECE_HEADER_BYTES)
    ∷ record { fails = length_of bytes i == 0 || nat_lt MAX_MEMORY (length_of bytes i); fault = faults.Limit (length_of bytes i) }
    ∷ record { fails = nat_lt MAX_MEMORY (end_of bytes i); fault = faults.Range (address_of bytes i) }
    ∷ record { fails = nat_lt (address_of bytes i) (least_address bytes i); fault = faults.Order i }
    ∷ too_short bytes (piece_place bytes (suc i))
    ∷ []

-- no bytes stand behind the last piece
abbrev pub end_check : List ℕ → Check
end_check bytes = record { fails = nat_lt (piece_place bytes (piece_count bytes)) (length bytes); fault = faults.Extra (piece_place bytes (piece_count bytes)) }

-- the checks of each piece in turn, and that no bytes stand behind the last
unfoldable pub pieces_checks : List ℕ → List Check
pieces_checks bytes = flat_map (piece_checks bytes) (range_with_len 0 (piece_count bytes)) ++ end_check bytes ∷ []

unfoldable pub checks : List ℕ → List Check
checks bytes = header_checks bytes ++ pieces_checks bytes

abbrev pub first_failing : List Check → Option ImageFault
first_failing [] = None
first_failing (check ∷ checks) = if check.fails then Some check.fault else first_failing checks

-- the fault of the first check that fails, if one does
unfoldable pub fault_of : List ℕ → Option ImageFault
fault_of bytes = first_failing (checks bytes)

-- these bytes are no image, and this is their fault
abbrev pub HasFault : List ℕ → ImageFault → Type 0
HasFault bytes fault = fault_of bytes ≡ Some fault
