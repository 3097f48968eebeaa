-- Lines by the first newline of a source.
use Rattle.std.proofs.Common.{◌≡◌, ◌≢◌, ℕ, ◌<◌, List, [], ◌∷◌, ◌++◌, length}
use Rattle.std.specs.List.{All}
use Rattle.std.specs.Str.Lines.{strip_carriage_return}
use Rattle.text_out.proofs.Exports as cuts
use Rattle.asm_parse.specs.Lines.{lines_of}

pub none : lines_of [] ≡ []
unfolding lines_of
none = cuts.none

pub first : (line rest : List ℕ) → All (λ b. b ≢ 10) line → lines_of (line ++ 10 ∷ rest) ≡ strip_carriage_return line ∷ lines_of rest
unfolding lines_of
first line rest other = cuts.first line rest other

pub last : (line : List ℕ) → 0 < length line → All (λ b. b ≢ 10) line → lines_of line ≡ line ∷ []
unfolding lines_of
last line some other = cuts.last line some other
