-- Copies of lines of the flat memory.
use Rattle.std.specs.Prelude.{◌≡◌, ◌≢◌, ℕ, ◌+◌, ◌*◌, ◌<◌, ◌≤◌, List, length, slice_index, Option, None}
use Rattle.pmsi_model.specs.declared.Mode.{Mode}
use Rattle.pmsi_model.specs.Parts.{word_at}

-- the copies of held lines have the words of the flat memory. Lines have so many words; `mode` and `copy` give the mode
-- and the words of a line
pub record AreCopies (count : ℕ) (memory : List ℕ) (mode : ℕ → Option Mode) (copy : ℕ → List ℕ) : Type 0 where
  pub words : (line place : ℕ) → place < count → mode line ≢ None → slice_index (copy line) place ≡ word_at memory (line * count + place)
  pub sizes : (line : ℕ) → mode line ≢ None → length (copy line) ≡ count
  pub within : (line : ℕ) → mode line ≢ None → 4 * ((line + 1) * count) ≤ length memory
