-- The image that bytes stand for where they pass every check.
use Rattle.std.specs.Prelude.{◌≡◌, ℕ, ◌+◌, ◌*◌, ◌≤◌, ◌<◌, List, length, take, drop, map}
use Rattle.std.specs.List.{range_with_len}
use Rattle.pmsi_model.specs.declared.image.Piece.{Piece}
use Rattle.pmsi_model.specs.Image.{ImageValue}
use Rattle.pmsi_model.specs.declared.limits.TheConstants.{MAX_MEMORY}
use Rattle.image_file.specs.declared.format.TheConstants.{HEADER_BYTES, PIECE_HEADER_BYTES}
use Rattle.image_file.specs.Checks.{number_at, word_count, piece_count, piece_place, address_of, length_of, end_of, least_address}
use Rattle.image_file.specs.declared.pieces.Cursor.{Cursor}

abbrev pub word_at : List ℕ → ℕ → ℕ
word_at bytes k = number_at bytes (HEADER_BYTES + 4 * k)

unfoldable pub words_in : List ℕ → List ℕ
words_in bytes = map (word_at bytes) (range_with_len 0 (word_count bytes))

unfoldable pub piece_at : List ℕ → ℕ → Piece
piece_at bytes i = record { address = address_of bytes i; bytes = take (length_of bytes i) (drop (piece_place bytes i + PIECE_HEADER_BYTES) bytes) }

unfoldable pub pieces_in : List ℕ → List Piece
pieces_in bytes = map (piece_at bytes) (range_with_len 0 (piece_count bytes))

unfoldable pub image_in : List ℕ → ImageValue
image_in bytes = record { text = words_in bytes; pieces = pieces_in bytes }

-- a cursor stands at the piece of its number
pub record IsAt (bytes : List ℕ) (cursor : Cursor) : Type 0 where
  pub place : cursor.place ≡ piece_place bytes cursor.index
  pub inside : cursor.place ≤ length bytes
  pub least : cursor.least ≡ least_address bytes cursor.index

-- a piece that passes its checks
pub record IsWhole (bytes : List ℕ) (i : ℕ) : Type 0 where
  pub some : 0 < length_of bytes i
  pub few : length_of bytes i ≤ MAX_MEMORY
  pub ends : end_of bytes i ≤ MAX_MEMORY
  pub above : least_address bytes i ≤ address_of bytes i
  pub inside : piece_place bytes (i + 1) ≤ length bytes
  pub next : piece_place bytes (i + 1) ≡ (piece_place bytes i + PIECE_HEADER_BYTES) + length_of bytes i
  pub least : least_address bytes (i + 1) ≡ end_of bytes i + 1
