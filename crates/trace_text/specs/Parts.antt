-- Bytes that are cut at each mark.
use Rattle.std.specs.Prelude.{ℕ, ◌==◌, List, [], Option, Some, None}
use Rattle.std.specs.Borrow.{Bor}
use Rattle.std.specs.List.{slice_split}

-- the parts of what is left, if anything is
abbrev pub parts_of : ℕ → Option (Bor (List ℕ)) → List (List ℕ)
parts_of mark None = []
parts_of mark (Some rest) = slice_split (λ byte. byte == mark) rest.now
