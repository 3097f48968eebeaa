-- The place of a line in a list.
use Rattle.std.proofs.Common.{◌≡◌, ℕ, List, [], ◌∷◌, is_some, ◌==◌, refl, arith}
use Rattle.std.specs.List.{position}
use Rattle.pmsi_model.specs.Machine.{has_line}
use Rattle.pend_buffers.specs.Pending.{place_in}

pub place_is : (line : ℕ) (lines : List ℕ) → position (λ l. l == line) lines ≡ place_in line lines
place_is line [] = refl
place_is line (l ∷ ls) = grind (arith, place_is line ls)

pub place_listed : (line : ℕ) (lines : List ℕ) → is_some (place_in line lines) ≡ has_line line lines
place_listed line [] = refl
place_listed line (l ∷ ls) = grind (arith, place_listed line ls)
