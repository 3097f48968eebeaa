-- What a line of waits says of them.
use Rattle.std.specs.Prelude.{◌≡◌, ℕ, sum, List, length}
use Rattle.pmsi_model.specs.Lines.{greatest}
use Rattle.listing.specs.declared.waits.Waits.{Waits}

-- the count, the greatest and the sum are those of these waits
abbrev pub IsOf : List ℕ → Waits → Type 0
IsOf waits w = (w.count ≡ length waits) × (w.greatest ≡ greatest waits) × (w.sum ≡ sum waits)
