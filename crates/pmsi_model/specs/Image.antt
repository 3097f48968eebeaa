-- An image as contracts see it.
use Rattle.std.specs.Prelude.{ℕ, ◌+◌, ◌^◌, ◌≤◌, ◌<◌, List, [], ◌∷◌, length}
use Rattle.std.specs.List.{All}
use Rattle.pmsi_model.specs.declared.image.Piece.{Piece}
use Rattle.pmsi_model.specs.declared.limits.TheConstants.{MAX_TEXT_WORDS, MAX_MEMORY}

pub record ImageValue : Type 0 where
  pub text : List ℕ
  pub pieces : List Piece

-- the address behind a piece's last byte
abbrev pub end_of : Piece → ℕ
end_of piece = piece.address + length piece.bytes

-- each piece begins at or above the least address, isn't empty, ends within the greatest memory, and leaves a gap before
-- the next
abbrev pub ArePieces : ℕ → List Piece → Type 0
ArePieces least [] = Unit {0}
ArePieces least (piece ∷ pieces) =
    (least ≤ piece.address) × (0 < length piece.bytes) × (end_of piece ≤ MAX_MEMORY) × ArePieces (end_of piece + 1) pieces

-- an image is within the limits
pub record IsImage (image : ImageValue) : Type 0 where
  pub text : length image.text ≤ MAX_TEXT_WORDS
  pub words : All (λ word. word < 2 ^ 32) image.text
  pub pieces : ArePieces 0 image.pieces
  pub bytes : All (λ piece. All (λ byte. byte < 256) piece.bytes) image.pieces
