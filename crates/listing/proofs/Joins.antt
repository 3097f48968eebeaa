-- Lists that are made core by core.
use Rattle.std.proofs.Common.{◌≡◌, ◌≢◌, ℕ, zero, suc, ◌<◌, ◌≤◌, List, [], ◌∷◌, ◌++◌, Bool, true, false, ◌==◌, if◌then◌else◌, map, refl, sym, ap, ◌∙◌, arith, append-nil}
use Rattle.std.specs.List.{filter, flat_map}
use Rattle.std.proofs.lemmas.List.{map-append}
use Rattle.std.proofs.lemmas.List.Concat.{flat_map-append}
use mathlib.Core.Logic.{dite}
use native.Mathlib.Decide.{ℕ_discrete}
use Rattle.listing.specs.Rests.{each}

-- the lists of the first `count` cores, one after the other
abbrev pub joined : {X : Type 0} → (ℕ → List X) → ℕ → List X
joined lists zero = []
joined lists (suc count) = joined lists count ++ lists count

module _ {X : Type 0} where
  pub joined_same : (f g : ℕ → List X) (count : ℕ) → ((c : ℕ) → c < count → f c ≡ g c) → joined f count ≡ joined g count
  joined_same f g zero same = refl
  joined_same f g (suc count) same = ap (λ (xs : List X). xs ++ f count) (joined_same f g count (λ c below. same c (omega arith)))
      ∙ ap (λ (xs : List X). joined g count ++ xs) (same count (omega arith))

  pub each_same : (f g : ℕ → X) (count : ℕ) → ((c : ℕ) → f c ≡ g c) → each f count ≡ each g count
  each_same f g zero same = refl
  each_same f g (suc count) same = ap (λ (xs : List X). xs ++ f count ∷ []) (each_same f g count same) ∙ ap (λ (x : X). each g count ++ x ∷ []) (same count)

  pub each_changed : (change : X → X) (f : ℕ → X) (count : ℕ) → map change (each f count) ≡ each (λ c. change (f c)) count
  each_changed change f zero = refl
  each_changed change f (suc count) = map-append change (each f count) (f count ∷ []) ∙ ap (λ (xs : List X). xs ++ change (f count) ∷ []) (each_changed change f count)

  pub each_told : (text : X → List ℕ) (f : ℕ → X) (count : ℕ) → flat_map text (each f count) ≡ joined (λ c. text (f c)) count
  each_told text f zero = refl
  each_told text f (suc count) = flat_map-append text (each f count) (f count ∷ [])
      ∙ ap (λ (xs : List ℕ). xs ++ flat_map text (f count ∷ [])) (each_told text f count)
      ∙ ap (λ (xs : List ℕ). joined (λ c. text (f c)) count ++ xs) (append-nil (text (f count)))

  pub joined_told : (line : X → List ℕ) (lists : ℕ → List X) (count : ℕ) → joined (λ c. flat_map line (lists c)) count ≡ flat_map line (joined lists count)
  joined_told line lists zero = refl
  joined_told line lists (suc count) = ap (λ (xs : List ℕ). xs ++ flat_map line (lists count)) (joined_told line lists count)
      ∙ sym (flat_map-append line (joined lists count) (lists count))

  -- ---- the only item of a list, by the core whose it is
  module _ (core_of : X → ℕ) where
    by_core : ℕ → List X → List X
    by_core c xs = filter (λ x. core_of x == c) xs

    is_own : (x : X) (c : ℕ) → core_of x ≡ c → by_core c (x ∷ []) ≡ x ∷ []
    unfolding by_core
    is_own x c same = let yes : (core_of x == c) ≡ true = grind (arith, same) in ap (λ (b : Bool). if b then x ∷ [] else []) yes

    is_other : (x : X) (c : ℕ) → core_of x ≢ c → by_core c (x ∷ []) ≡ []
    unfolding by_core
    is_other x c other = let no : (core_of x == c) ≡ false = grind (arith, other) in ap (λ (b : Bool). if b then x ∷ [] else []) no

    none_below : (x : X) (count : ℕ) → count ≤ core_of x → joined (λ c. by_core c (x ∷ [])) count ≡ []
    none_below x zero above = refl
    none_below x (suc count) above = ap (λ (xs : List X). xs ++ by_core count (x ∷ [])) (none_below x count (omega arith))
        ∙ is_other x count (omega arith)

    one_below : (x : X) (count : ℕ) → core_of x < count → joined (λ c. by_core c (x ∷ [])) count ≡ x ∷ []
    one_below x zero below = absurd (omega arith)
    one_below x (suc count) below = dite (ℕ_discrete (core_of x) count)
        (λ same. ap (λ (xs : List X). xs ++ by_core count (x ∷ [])) (none_below x count (omega arith)) ∙ is_own x count same)
        (λ other. ap (λ (xs : List X). joined (λ c. by_core c (x ∷ [])) count ++ xs) (is_other x count other) ∙ append-nil (joined (λ c. by_core c (x ∷ [])) count)
        ∙ one_below x count (omega arith))

    pub only_one : (x : X) (count : ℕ) → core_of x < count → joined (λ c. filter (λ y. core_of y == c) (x ∷ [])) count ≡ x ∷ []
    unfolding by_core
    only_one x count below = one_below x count below

  pub nothing : (core_of : X → ℕ) (count : ℕ) → joined (λ c. filter (λ y. core_of y == c) []) count ≡ []
  nothing core_of zero = refl
  nothing core_of (suc count) = ap (λ (xs : List X). xs ++ []) (nothing core_of count)
