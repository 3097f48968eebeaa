-- The bytes of an image.
use Rattle.std.specs.Prelude.{◌≡◌, ℕ, List, ◌++◌, length, codes}
use Rattle.std.specs.List.{flat_map}
use Rattle.byteorder.specs.Endian.{little_bytes}
use Rattle.pmsi_model.specs.declared.image.Piece.{Piece}
use Rattle.pmsi_model.specs.Image.{ImageValue, IsImage}

-- what an image's bytes begin with
abbrev pub magic : List ℕ
magic = codes "PMSIIMG1"

-- a number: four bytes, lowest first
unfoldable pub number_bytes : ℕ → List ℕ
number_bytes number = little_bytes 4 number

-- a piece: its address, its length, its bytes
unfoldable pub piece_bytes : Piece → List ℕ
piece_bytes piece = number_bytes piece.address ++ number_bytes (length piece.bytes) ++ piece.bytes

-- the magic, how many words and how many pieces there are, the words, the pieces
unfoldable pub image_bytes : ImageValue → List ℕ
image_bytes image =
    magic ++ number_bytes (length image.text) ++ number_bytes (length image.pieces)
    ++ flat_map number_bytes image.text ++ flat_map piece_bytes image.pieces

-- these bytes are those of an image within the limits
pub record IsBytesOf (image : ImageValue) (bytes : List ℕ) : Type 0 where
  pub within : IsImage image
  pub spelt : bytes ≡ image_bytes image
