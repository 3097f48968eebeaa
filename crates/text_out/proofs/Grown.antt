-- Texts that grow at the end.
use Rattle.std.proofs.Common.{◌≡◌, ℕ, ◌+◌, ◌<◌, List, [], ◌∷◌, ◌++◌, length, take, get_or, sym, ap, ◌∙◌, subst, append_assoc, arith, zero-add, add-zero}
use Rattle.std.proofs.lemmas.List.{append-nil, take_more, length-take-le}

-- a text, and then a piece
pub grown : (old text before after piece : List ℕ) → before ≡ old ++ text → after ≡ before ++ piece → after ≡ old ++ (text ++ piece)
grown old text before after piece h g = g ∙ ap (λ x. x ++ piece) h ∙ append_assoc old text piece

-- a text by places: a piece for each item of a list, which depends on the item's place as well
pub record IsByPlaces (text : ℕ → List ℕ → List ℕ) (piece : ℕ → ℕ → List ℕ) : Type 0 where
  pub none : (place : ℕ) → text place [] ≡ []
  pub more : (place item : ℕ) (items : List ℕ) → text place (item ∷ items) ≡ piece place item ++ text (place + 1) items

module _ (text : ℕ → List ℕ → List ℕ) (piece : ℕ → ℕ → List ℕ) (is : IsByPlaces text piece) where
  -- the text of one item more
  next_item : (place : ℕ) (items : List ℕ) (item : ℕ) → text place (items ++ item ∷ []) ≡ text place items ++ piece (place + length items) item
  next_item place [] item = rw (add-zero, is.more place item [], is.none (place + 1), is.none place) (append-nil (piece place item))
  next_item place (i ∷ items) item =
      let same : place + 1 + length items ≡ place + length (i ∷ items) = omega arith in
      let P : ℕ → Type 0 = λ n. text (place + 1) (items ++ item ∷ []) ≡ text (place + 1) items ++ piece n item in
      is.more place i (items ++ item ∷ []) ∙ ap (λ x. piece place i ++ x) (subst P same (next_item (place + 1) items item))
      ∙ sym (append_assoc (piece place i) (text (place + 1) items) (piece (place + length (i ∷ items)) item))
      ∙ ap (λ x. x ++ piece (place + length (i ∷ items)) item) (sym (is.more place i items))

  next_taken : (items : List ℕ) (k : ℕ) → k < length items → text 0 (take (k + 1) items) ≡ text 0 (take k items) ++ piece k (get_or items k 0)
  next_taken items k within =
      let number : 0 + length (take k items) ≡ k = zero-add _ ∙ length-take-le k items (omega arith) in
      let P : ℕ → Type 0 = λ n. text 0 (take k items ++ get_or items k 0 ∷ []) ≡ text 0 (take k items) ++ piece n (get_or items k 0) in
      ap (λ taken. text 0 taken) (take_more items k 0 within) ∙ subst P number (next_item 0 (take k items) (get_or items k 0))

  -- the pieces below place k, and then that of place k
  pub further : (start before after items : List ℕ) (k : ℕ) → k < length items → before ≡ start ++ text 0 (take k items) → after ≡ before ++ piece k (get_or items k 0) →
      after ≡ start ++ text 0 (take (k + 1) items)
  further start before after items k within h g =
      grown start (text 0 (take k items)) before after (piece k (get_or items k 0)) h g ∙ ap (λ x. start ++ x) (sym (next_taken items k within))
