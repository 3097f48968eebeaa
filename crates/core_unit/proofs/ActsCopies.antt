-- Copies of lines when a line comes into the cache, and when lines leave it.
use Rattle.std.proofs.Common.{◌≡◌, ◌≢◌, ℕ, ◌+◌, ◌*◌, ◌/◌, ◌%◌, ◌<◌, ◌≤◌, ◌==◌, List, All, length, get_or, set, Option, Some, None, if◌then◌else◌, sym, ap, ◌∙◌, subst, arith, get_or-set_same, get_or-set_other, length-set}
use mathlib.Core.Logic.{dite}
use native.Mathlib.Decide.{ℕ_discrete}
use Rattle.std.proofs.lemmas.Nat.{same_from_place}
use Rattle.pmsi_model.specs.declared.job.Geometry.{Geometry}
use Rattle.pmsi_model.specs.declared.Access.{Access}
use Rattle.pmsi_model.specs.declared.Mode.{Mode}
use Rattle.pmsi_model.specs.Geometry.{line_of}
use Rattle.pmsi_model.specs.Words.{number_of}
use Rattle.pmsi_model.specs.Access.{width_of}
use Rattle.pmsi_model.specs.Parts.{word_at}
use Rattle.pmsi_model.specs.Phase.{met_bytes, memory_after}
use Rattle.pmsi_model.proofs.Numbers.{next_multiple}
use Rattle.cache_array.specs.Cache.{word_place}
use Rattle.rv_exec.specs.Accesses.{bytes_after, covered}
use Rattle.core_unit.specs.Copies.{AreCopies}
use Rattle.core_unit.specs.State.{met_among, words_with}
use Rattle.core_unit.proofs.Copies.{covered_is, word_at-after, place_of_word, place_below}

-- words are those of a line of the flat memory
pub record AreWords (count : ℕ) (memory : List ℕ) (line : ℕ) (words : List ℕ) : Type 0 where
  pub size : length words ≡ count
  pub same : (place : ℕ) → place < count → get_or words place 0 ≡ word_at memory (line * count + place)
  pub within : 4 * ((line + 1) * count) ≤ length memory

-- a word of a line is within memory
pub word_within : (line count place size : ℕ) → place < count → 4 * ((line + 1) * count) ≤ size → 4 * (line * count + place) + 4 ≤ size
word_within line count place size below within = let m = next_multiple line count in omega arith

-- ---- copies

-- each line that is held was held, with its words
pub copies_fewer : (count : ℕ) (memory : List ℕ) (mode mode' : ℕ → Option Mode) (copy copy' : ℕ → List ℕ) →
    ((l : ℕ) → mode' l ≢ None → mode l ≢ None) → ((l : ℕ) → mode' l ≢ None → copy' l ≡ copy l) → AreCopies count memory mode copy → AreCopies count memory mode' copy'
copies_fewer count memory mode mode' copy copy' held same a = record {
  words = λ l place below h. ap (λ (c : List ℕ). get_or c place 0) (same l h) ∙ a.words l place below (held l h);
  sizes = λ l h. ap length (same l h) ∙ a.sizes l (held l h);
  within = λ l h. a.within l (held l h);
}

-- a line comes in with the words that memory has now; its other lines have the same words as before
pub copies_put : (count : ℕ) (memory memory' : List ℕ) (mode mode' : ℕ → Option Mode) (copy copy' : ℕ → List ℕ) (line : ℕ) (new : Mode) (words : List ℕ) →
    length memory' ≡ length memory → AreWords count memory' line words →
    ((l place : ℕ) → place < count → l ≢ line → 4 * ((l + 1) * count) ≤ length memory → word_at memory' (l * count + place) ≡ word_at memory (l * count + place)) →
    ((l : ℕ) → mode' l ≡ (if l == line then Some new else mode l)) → ((l : ℕ) → copy' l ≡ (if l == line then words else copy l)) →
    AreCopies count memory mode copy → AreCopies count memory' mode' copy'
copies_put count memory memory' mode mode' copy copy' line new words size w others modes copies a = record {
  words = λ l place below h. dite (ℕ_discrete l line)
      (λ here. let c : copy' l ≡ words = grind (arith, copies l) in
      ap (λ (ws : List ℕ). get_or ws place 0) c ∙ w.same place below ∙ ap (λ (n : ℕ). word_at memory' (n * count + place)) (sym here))
      (λ away. let c : copy' l ≡ copy l = grind (arith, copies l) in let held : mode l ≢ None = grind (arith, modes l) in
      ap (λ (ws : List ℕ). get_or ws place 0) c ∙ a.words l place below held ∙ sym (others l place below away (a.within l held)));
  sizes = λ l h. dite (ℕ_discrete l line)
      (λ here. let c : copy' l ≡ words = grind (arith, copies l) in ap length c ∙ w.size)
      (λ away. let c : copy' l ≡ copy l = grind (arith, copies l) in let held : mode l ≢ None = grind (arith, modes l) in ap length c ∙ a.sizes l held);
  within = λ l h. dite (ℕ_discrete l line)
      (λ here. let n = w.within in subst (λ (k : ℕ). 4 * ((k + 1) * count) ≤ length memory') (sym here) n)
      (λ away. let held : mode l ≢ None = grind (arith, modes l) in let n = a.within l held in omega arith);
}

-- ---- an access on the words of its line

module _ (shape : Geometry) (access : Access) (memory words : List ℕ) (some : 0 < shape.line_words) (aligned : access.address % width_of access.op ≡ 0)
    (small : All (λ byte. byte < 256) memory) (w : AreWords shape.line_words memory (line_of shape access.address) words) where
  place : ℕ
  place = word_place shape access.address

  here : line_of shape access.address * shape.line_words + word_place shape access.address ≡ access.address / 4
  here = place_of_word access.address shape.line_words some

  below : word_place shape access.address < shape.line_words
  below = place_below access.address shape.line_words some

  inside : 4 * (access.address / 4) + 4 ≤ length memory
  inside = subst (λ (n : ℕ). 4 * n + 4 ≤ length memory) here
      (word_within (line_of shape access.address) shape.line_words (word_place shape access.address) (length memory) below w.within)

  met_word : met_among shape access words ≡ word_at memory (access.address / 4)
  met_word = w.same (word_place shape access.address) below ∙ ap (word_at memory) here

  -- the word that is met is that of memory
  pub met_there : covered access (met_among shape access words) ≡ met_bytes access memory
  met_there = ap (covered access) met_word ∙ covered_is access memory aligned small inside

  new_word : ℕ
  new_word = number_of (bytes_after access (word_at memory (access.address / 4)))

  after_word : (i : ℕ) → 4 * i + 4 ≤ length memory →
      word_at (memory_after access memory) i ≡ (if i == line_of shape access.address * shape.line_words + word_place shape access.address then number_of (bytes_after access (word_at memory (access.address / 4))) else word_at memory i)
  after_word i within = subst (λ (n : ℕ). word_at (memory_after access memory) i ≡ (if i == n then number_of (bytes_after access (word_at memory (access.address / 4))) else word_at memory i)) (sym here)
      (word_at-after access memory aligned small inside i within)

  -- words of other lines stay
  pub other_word : (l at : ℕ) → at < shape.line_words → l ≢ line_of shape access.address → 4 * ((l + 1) * shape.line_words) ≤ length memory →
      word_at (memory_after access memory) (l * shape.line_words + at) ≡ word_at memory (l * shape.line_words + at)
  other_word l at short away within =
      let apart : l * shape.line_words + at ≢ line_of shape access.address * shape.line_words + word_place shape access.address =
      λ same. away (same_from_place l at (line_of shape access.address) (word_place shape access.address) shape.line_words short below same).0 in
      after_word (l * shape.line_words + at) (word_within l shape.line_words at (length memory) short within) ∙ grind arith

  written : (at : ℕ) → at < shape.line_words →
      get_or (set words (word_place shape access.address) (number_of (bytes_after access (word_at memory (access.address / 4))))) at 0 ≡ word_at (memory_after access memory) (line_of shape access.address * shape.line_words + at)
  written at short =
      let next = after_word (line_of shape access.address * shape.line_words + at) (word_within (line_of shape access.address) shape.line_words at (length memory) short w.within) in
      let old = w.same at short in let size = w.size in
      dite (ℕ_discrete at (word_place shape access.address))
      (λ this. grind (arith, get_or-set_same words (word_place shape access.address) (number_of (bytes_after access (word_at memory (access.address / 4)))) 0))
      (λ that. grind (arith, get_or-set_other words (word_place shape access.address) at (number_of (bytes_after access (word_at memory (access.address / 4)))) 0))

  -- the words once the access is done are those of memory then
  pub words_after : length (memory_after access memory) ≡ length memory → AreWords shape.line_words (memory_after access memory) (line_of shape access.address) (words_with shape access words)
  words_after size = subst (λ (m : ℕ). AreWords shape.line_words (memory_after access memory) (line_of shape access.address) (set words (word_place shape access.address) (number_of (bytes_after access m)))) (sym met_word) (record {
    size = length-set words (word_place shape access.address) (number_of (bytes_after access (word_at memory (access.address / 4)))) ∙ w.size;
    same = written;
    within = (let n = w.within in omega arith);
  })
