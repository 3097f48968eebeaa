-- The names of heads.
use Rattle.std.proofs.Common.{◌≡◌, ℕ, List, [], ◌∷◌, None, refl, arith}
use Rattle.std.specs.Option.{option_map}
use Rattle.std.specs.Str.{bytes_eq}
use Rattle.std.specs.List.{AllByRecursion, find}
use Rattle.std.proofs.lemmas.Slice.Eq.{bytes_eq-Decides}

-- no row names this text
pub named-none : {A : Type 0} (rows : List (List ℕ × A)) (text : List ℕ) → AllByRecursion (λ row. text ≡ row.0 → ⊥) rows → option_map (λ row. row.1) (find (λ row. bytes_eq row.0 text) rows) ≡ None
named-none [] text differs = refl
named-none (row ∷ rows) text differs = grind (arith, bytes_eq-Decides row.0 text, named-none rows text differs.1, differs.0)
