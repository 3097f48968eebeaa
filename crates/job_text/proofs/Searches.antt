-- The first that passes, from a place on.
use Rattle.std.proofs.Common.{◌≡◌, ℕ, ◌+◌, ◌<◌, ◌≤◌, Bool, true, false, List, map, length, drop, get_or, Option, Some, None, refl, ◌∙◌, ap, add-one}
use Rattle.std.specs.List.{find}
use Rattle.std.proofs.Math.Seq.{drop-cons}
use Rattle.std.proofs.lemmas.List.{drop_all}
use Rattle.job_text.specs.Faults.{first_of}

module _ {A : Type 0} (p : A → Bool) (xs : List A) (i : ℕ) where
  pub find_next : (d : A) → i < length xs → p (get_or xs i d) ≡ false → find p (drop i xs) ≡ find p (drop (i + 1) xs)
  find_next d low fails = ap (find p) (drop-cons xs i d low) ∙ rw (fails, add-one) refl

  pub find_here : (d : A) → i < length xs → p (get_or xs i d) ≡ true → find p (drop i xs) ≡ Some (get_or xs i d)
  find_here d low passes = ap (find p) (drop-cons xs i d low) ∙ rw passes refl

  pub find_end : length xs ≤ i → find p (drop i xs) ≡ None
  find_end end = ap (find p) (drop_all i xs end)

module _ {A B : Type 0} (f : A → Option B) (xs : List A) (i : ℕ) where
  pub first_next : (d : A) → i < length xs → f (get_or xs i d) ≡ None → first_of (map f (drop i xs)) ≡ first_of (map f (drop (i + 1) xs))
  unfolding first_of
  first_next d low none = ap (λ ys. first_of (map f ys)) (drop-cons xs i d low) ∙ rw (none, add-one) refl

  pub first_here : (d : A) (b : B) → i < length xs → f (get_or xs i d) ≡ Some b → first_of (map f (drop i xs)) ≡ Some b
  unfolding first_of
  first_here d b low some = ap (λ ys. first_of (map f ys)) (drop-cons xs i d low) ∙ rw some refl

  pub first_end : length xs ≤ i → first_of (map f (drop i xs)) ≡ None
  unfolding first_of
  first_end end = ap (λ ys. first_of (map f ys)) (drop_all i xs end)
