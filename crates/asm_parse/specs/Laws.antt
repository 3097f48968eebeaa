-- Laws of lines.
use Rattle.std.specs.Prelude.{◌≡◌, ◌≢◌, ℕ, ◌<◌, List, [], ◌∷◌, ◌++◌, length}
use Rattle.std.specs.List.{All}
use Rattle.std.specs.Str.Lines.{strip_carriage_return}
use Rattle.asm_parse.specs.Lines.{lines_of}

-- the three cases of a source: it is empty, a last line without its newline, or begins with a line and its newline
pub record LinesAreCut : Type 0 where
  pub none : lines_of [] ≡ []
  pub last : (line : List ℕ) → 0 < length line → All (λ b. b ≢ 10) line → lines_of line ≡ line ∷ []
  pub first : (line rest : List ℕ) → All (λ b. b ≢ 10) line → lines_of (line ++ 10 ∷ rest) ≡ strip_carriage_return line ∷ lines_of rest
