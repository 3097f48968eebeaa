-- The lines of a source.
use Rattle.std.specs.Prelude.{ℕ, Bool, ◌==◌, List}
use Rattle.std.specs.Str.Lines.{lines}

abbrev pub is_newline : ℕ → Bool
is_newline b = b == 10

-- The source is cut at newlines, and one byte 13 directly before a newline is dropped. What stands after the last
-- newline is a line only where it isn't empty. These are the lines that Rust's `str::lines` gives.
unfoldable pub lines_of : List ℕ → List (List ℕ)
lines_of source = lines source
