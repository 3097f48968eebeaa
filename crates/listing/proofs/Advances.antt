-- A list whose first items have been changed one after the other.
use Rattle.std.proofs.Common.{◌≡◌, ℕ, zero, suc, ◌+◌, ◌<◌, ◌≤◌, List, [], ◌∷◌, ◌++◌, length, take, get_or, set, map, refl, sym, ap, ◌∙◌, arith, add-one, append-nil}
use Rattle.std.specs.List.{flat_map}
use Rattle.std.proofs.lemmas.List.{take_all, take_more}
use Rattle.std.proofs.lemmas.List.Concat.{flat_map-append}
use Rattle.text_out.proofs.Exports.{grown}

-- the first `count` items are changed
abbrev pub advanced : {X : Type 0} → (X → X) → ℕ → List X → List X
advanced change zero xs = xs
advanced change (suc count) [] = []
advanced change (suc count) (x ∷ xs) = change x ∷ advanced change count xs

module _ {X : Type 0} (change : X → X) where
  all_changed : (count : ℕ) (xs : List X) → length xs ≤ count → advanced change count xs ≡ map change xs
  all_changed zero [] all = refl
  all_changed zero (x ∷ xs) all = absurd (omega arith)
  all_changed (suc count) [] all = refl
  all_changed (suc count) (x ∷ xs) all = ap (λ (ys : List X). change x ∷ ys) (all_changed count xs (omega arith))

  length-advanced : (count : ℕ) (xs : List X) → length (advanced change count xs) ≡ length xs
  length-advanced zero xs = refl
  length-advanced (suc count) [] = refl
  length-advanced (suc count) (x ∷ xs) = ap (λ (n : ℕ). suc n) (length-advanced count xs)

  next_item : (count : ℕ) (xs : List X) (other : X) → get_or (advanced change count xs) count other ≡ get_or xs count other
  next_item zero xs other = refl
  next_item (suc count) [] other = refl
  next_item (suc count) (x ∷ xs) other = next_item count xs other

  set_next : (count : ℕ) (xs : List X) (other : X) → count < length xs → set (advanced change count xs) count (change (get_or xs count other)) ≡ advanced change (suc count) xs
  set_next zero [] other below = absurd (omega arith)
  set_next zero (x ∷ xs) other below = refl
  set_next (suc count) [] other below = absurd (omega arith)
  set_next (suc count) (x ∷ xs) other below = ap (λ (ys : List X). change x ∷ ys) (set_next count xs other (omega arith))

  text_next : (text : X → List ℕ) (count : ℕ) (xs : List X) (other : X) → count < length xs
      → flat_map text (take (count + 1) xs) ≡ flat_map text (take count xs) ++ text (get_or xs count other)
  text_next text count xs other below = ap (flat_map text) (take_more xs count other below)
      ∙ flat_map-append text (take count xs) (get_or xs count other ∷ [])
      ∙ ap (λ (more : List ℕ). flat_map text (take count xs) ++ more) (append-nil (text (get_or xs count other)))

  -- one item more is changed, and its text told
  pub one_more : (text : X → List ℕ) (count : ℕ) (xs now : List X) (other x y : X) (start before after : List ℕ) → count < length xs
      → now ≡ advanced change count xs → x ≡ get_or now count other → y ≡ change x → before ≡ start ++ flat_map text (take count xs) → after ≡ before ++ text x
      → (after ≡ start ++ flat_map text (take (count + 1) xs)) × (set now count y ≡ advanced change (count + 1) xs)
  one_more text count xs now other x y start before after below is at becomes told tells =
      let item : x ≡ get_or xs count other = at ∙ ap (λ (ys : List X). get_or ys count other) is ∙ next_item count xs other in (
        grown start (flat_map text (take count xs)) before after (text x) told tells
            ∙ ap (λ (z : X). start ++ (flat_map text (take count xs) ++ text z)) item
            ∙ ap (λ (more : List ℕ). start ++ more) (sym (text_next text count xs other below)),
        ap (λ (ys : List X). set ys count y) is ∙ ap (λ (z : X). set (advanced change count xs) count z) (becomes ∙ ap change item)
            ∙ set_next count xs other below ∙ ap (λ (n : ℕ). advanced change n xs) (sym (add-one count)),
      )

  -- all items are
  pub all_told : (text : X → List ℕ) (count : ℕ) (xs now : List X) (start out : List ℕ) → length xs ≤ count → now ≡ advanced change count xs
      → out ≡ start ++ flat_map text (take count xs) → (out ≡ start ++ flat_map text xs) × (now ≡ map change xs)
  all_told text count xs now start out all is told =
      (told ∙ ap (λ (ys : List X). start ++ flat_map text ys) (take_all count xs all), is ∙ all_changed count xs all)
