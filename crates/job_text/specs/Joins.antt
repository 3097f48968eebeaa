-- What the code finds out about the bytes that images name.
use Rattle.std.specs.Prelude.{◌≡◌, ◌≢◌, ℕ, ◌^◌, ◌<◌, ◌≤◌, List, [], ◌∷◌, length, min, slice_index_or, Option, None, Some, MatchOption}
use Rattle.std.specs.List.{All}
use Rattle.std.specs.Option.{option_or}
use Rattle.pmsi_model.specs.declared.image.Piece.{Piece}
use Rattle.pmsi_model.specs.declared.limits.TheConstants.{MAX_TEXT_WORDS}
use Rattle.pmsi_model.specs.Image.{ImageValue, end_of}
use Rattle.job_text.specs.Joining.{byte_in, byte_of}

-- the least number that fits, where one does
abbrev pub IsLeast : (ℕ → Type 0) → Option ℕ → Type 0
IsLeast Fits least = MatchOption least ((n : ℕ) → Fits n → ⊥) (λ n. Fits n × ((m : ℕ) → Fits m → n ≤ m))

-- a byte is named, and it is another than this one
abbrev pub IsOther : Option ℕ → Option ℕ → Type 0
IsOther byte cell = (byte ≢ None) × (byte ≢ cell)

-- a byte is named past the memory
abbrev pub IsBeyond : ℕ → ℕ → Option ℕ → Type 0
IsBeyond memory address byte = (byte ≢ None) × (memory ≤ address)

-- each piece ends within so many bytes
abbrev pub AreBelow : ℕ → List Piece → Type 0
AreBelow memory [] = Unit {0}
AreBelow memory (piece ∷ pieces) = (end_of piece ≤ memory) × AreBelow memory pieces

-- the byte in a cell of memory, if it was named
abbrev pub cell_at : List (Option ℕ) → ℕ → Option ℕ
cell_at cells address = slice_index_or cells address None

-- pieces were named where no byte was named before
pub record AreNamed (before after : List (Option ℕ)) (pieces : List Piece) : Type 0 where
  pub count : length after ≡ length before
  pub each : (address : ℕ) → address < length before → cell_at after address ≡ option_or (cell_at before address) (byte_in pieces address)

-- the byte that the first core names that names one
unfoldable pub first_byte : List ImageValue → ℕ → Option ℕ
first_byte [] address = None
first_byte (image ∷ images) address = option_or (byte_in image.pieces address) (first_byte images address)

-- cells have the bytes that the first cores name
pub record AreFirst (images : List ImageValue) (memory : ℕ) (cells : List (Option ℕ)) : Type 0 where
  pub count : length cells ≡ memory
  pub each : (address : ℕ) → address < memory → cell_at cells address ≡ first_byte images address

-- some core names another byte at an address than its cell has
pub record HasOther (images : List ImageValue) (cells : List (Option ℕ)) (address : ℕ) : Type 0 where
  pub core : ℕ
  pub other : IsOther (byte_of images core address) (cell_at cells address)

-- the lower of two addresses that may be missing
abbrev pub lower_of : Option ℕ → Option ℕ → Option ℕ
lower_of None two = two
lower_of (Some a) None = Some a
lower_of (Some a) (Some b) = Some (min a b)

-- texts of words are within the limits
pub record AreTexts (texts : List (List ℕ)) : Type 0 where
  pub few : All (λ text. length text ≤ MAX_TEXT_WORDS) texts
  pub words : All (λ text. All (λ word. word < 2 ^ 32) text) texts
