-- The words of a line, one by one from the front.
use Rattle.std.proofs.Common.{◌≡◌, ℕ, List, [], ◌∷◌, ◌++◌, Option, Some, None, refl, ap, ◌∙◌, sym, append_assoc, append-nil}
use Rattle.job_text.specs.Sayings.{word_in, words_in, cons_if}

-- these words, and others behind them
abbrev pub behind : List ℕ → Option (List ℕ) → Option (List ℕ)
behind words None = None
behind words (Some others) = Some (words ++ others)

cons_behind : (words : List ℕ) (word : ℕ) (others : Option (List ℕ)) → behind words (cons_if (Some word) others) ≡ behind (words ++ word ∷ []) others
cons_behind words word None = refl
cons_behind words word (Some others) = rw append_assoc refl

pub more : (all : Option (List ℕ)) (words : List ℕ) (word : ℕ) (field : List ℕ) (fields rest : List (List ℕ)) → fields ≡ field ∷ rest → word_in field ≡ Some word
    → all ≡ behind words (words_in fields) → all ≡ behind (words ++ word ∷ []) (words_in rest)
unfolding words_in
more all words word field fields rest cut is e = e ∙ ap (λ fs. behind words (words_in fs)) cut ∙ ap (λ w. behind words (cons_if w (words_in rest))) is ∙ cons_behind words word (words_in rest)

pub none : (all : Option (List ℕ)) (words field : List ℕ) (fields rest : List (List ℕ)) → fields ≡ field ∷ rest → word_in field ≡ None → all ≡ behind words (words_in fields) → None ≡ all
unfolding words_in
none all words field fields rest cut is e = sym (e ∙ ap (λ fs. behind words (words_in fs)) cut ∙ ap (λ w. behind words (cons_if w (words_in rest))) is)

pub whole : (all : Option (List ℕ)) (words : List ℕ) (fields : List (List ℕ)) → fields ≡ [] → all ≡ behind words (words_in fields) → Some words ≡ all
unfolding words_in
whole all words fields end e = sym (e ∙ ap (λ fs. behind words (words_in fs)) end ∙ ap Some (append-nil words))
