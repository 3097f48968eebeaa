-- A text cut into lines, and lines into fields.
use Rattle.std.specs.Prelude.{ℕ, ◌+◌, Bool, true, false, ◌||◌, ◌==◌, if◌then◌else◌, List, [], ◌∷◌}
use Rattle.std.specs.List.{before_first, filter, slice_split}
use Rattle.std.specs.Str.Lines.{lines}

-- `#` (35) begins a comment, which ends with its line
abbrev pub is_hash : ℕ → Bool
is_hash byte = byte == 35

-- spaces (32) and tabs (9)
abbrev pub is_blank : ℕ → Bool
is_blank byte = byte == 32 || byte == 9

abbrev pub has_some : {A : Type 0} → List A → Bool
has_some [] = false
has_some (a ∷ others) = true

-- fields are what stands between blanks
unfoldable pub fields_between : List ℕ → List (List ℕ)
fields_between text = filter has_some (slice_split is_blank text)

-- the fields of a line, which stand before its comment
abbrev pub fields_of : List ℕ → List (List ℕ)
fields_of line = fields_between (before_first is_hash line)

-- a line with its number
pub record Row : Type 0 where
  pub number : ℕ
  pub fields : List (List ℕ)

-- a line without fields is skipped
abbrev pub with_row : Row → List Row → List Row
with_row row rows = if has_some row.fields then row ∷ rows else rows

-- the lines that have fields, of lines that are numbered from a number on
unfoldable pub rows_from : ℕ → List (List ℕ) → List Row
rows_from number [] = []
rows_from number (line ∷ lines) = with_row (record { number = number; fields = fields_of line }) (rows_from (number + 1) lines)

-- The lines of a text that have fields. The text is cut at newlines, and one byte 13 directly before a newline is dropped; what
-- stands after the last newline is a line too. These are the lines that Rust's `str::lines` gives, which leaves out an empty
-- last one. The first line has number 1.
unfoldable pub rows_of : List ℕ → List Row
rows_of text = rows_from 1 (lines text)
