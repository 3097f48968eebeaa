-- Words of the flat memory, by lines; and a part of a list of words that is replaced.
use Rattle.std.proofs.Common.{◌≡◌, ℕ, ◌+◌, ◌-◌, ◌*◌, ◌/◌, ◌%◌, ◌<◌, ◌≤◌, List, ◌++◌, length, get_or, take, drop, sym, ap, ◌∙◌, subst, arith, length-append, length-drop, get_or-take, get_or-drop}
use Rattle.std.proofs.lemmas.List.{length-take-le, get_or_append_left, get_or-append_right}
use Rattle.std.proofs.lemmas.Nat.{div-add-mod', mod_below}
use Rattle.std.proofs.Math.Nat.{div-eq_of_lt-le}
use Rattle.pmsi_model.specs.declared.job.Geometry.{Geometry}
use Rattle.pmsi_model.specs.Geometry.{IsGeometry}
use Rattle.pmsi_model.specs.Words.{number_of}
use Rattle.pmsi_model.specs.Phase.{bytes_from}
use Rattle.pmsi_model.specs.Parts.{word_at}
use Rattle.pmsi_model.proofs.Numbers.{next_multiple}
use Rattle.coherence_laws.specs.Apart.{line_bytes_in}
use Rattle.coherence_laws.proofs.Exports.{bytes_within}

-- ---- places

-- a line has words
pub some_words : (shape : Geometry) → IsGeometry shape → 0 < shape.line_words
some_words shape is = let least = is.least_line in omega arith

-- the line of a word, by its place there
pub line_of_word : (line place count : ℕ) → place < count → (line * count + place) / count ≡ line
line_of_word line place count below = div-eq_of_lt-le count (omega arith) (let m = next_multiple line count in omega arith)

-- ---- words of a line

word_address : (line place count : ℕ) → line * (4 * count) + 4 * place ≡ 4 * (line * count + place)
word_address line place count = grind arith

-- a word's bytes are bytes of its line
word_in_line : (shape : Geometry) (line place : ℕ) (memory : List ℕ) → place < shape.line_words
    → bytes_from (4 * place) 4 (line_bytes_in shape line memory) ≡ bytes_from (4 * (line * shape.line_words + place)) 4 memory
word_in_line shape line place memory below =
    bytes_within (line * (4 * shape.line_words)) (4 * shape.line_words) (4 * place) 4 memory (omega arith)
    ∙ ap (λ (n : ℕ). bytes_from n 4 memory) (word_address line place shape.line_words)

-- two memories that have the same bytes on a line have the same words there
pub words_same : (shape : Geometry) (line place : ℕ) (m n : List ℕ) → place < shape.line_words
    → line_bytes_in shape line m ≡ line_bytes_in shape line n
    → word_at m (line * shape.line_words + place) ≡ word_at n (line * shape.line_words + place)
words_same shape line place m n below same =
    ap number_of (sym (word_in_line shape line place m below) ∙ ap (bytes_from (4 * place) 4) same ∙ word_in_line shape line place n below)

pub word_same : (shape : Geometry) (i : ℕ) (m n : List ℕ) → 0 < shape.line_words
    → line_bytes_in shape (i / shape.line_words) m ≡ line_bytes_in shape (i / shape.line_words) n
    → word_at m i ≡ word_at n i
word_same shape i m n some same =
    subst (λ (a : ℕ). word_at m a ≡ word_at n a) (div-add-mod' i shape.line_words)
    (words_same shape (i / shape.line_words) (i % shape.line_words) m n (mod_below i shape.line_words some) same)

-- ---- a part of a list is replaced

module _ (words piece : List ℕ) (start stop : ℕ) (size : start + length piece ≡ stop) (within : stop ≤ length words) where
  front_length : length (take start words) ≡ start
  front_length = length-take-le start words (omega arith)

  both_length : length (take start words ++ piece) ≡ stop
  both_length = omega (arith, length-append (take start words) piece, front_length)

  pub length-spliced : length (take start words ++ piece ++ drop stop words) ≡ length words
  length-spliced = omega (arith, length-append (take start words ++ piece) (drop stop words), both_length, length-drop stop words)

  pub spliced_before : (i : ℕ) → i < start → get_or (take start words ++ piece ++ drop stop words) i 0 ≡ get_or words i 0
  spliced_before i h = get_or_append_left (take start words ++ piece) (drop stop words) 0 i (omega (arith, both_length))
      ∙ get_or_append_left (take start words) piece 0 i (omega (arith, front_length)) ∙ get_or-take start words i 0 h

  pub spliced_at : (i : ℕ) → start ≤ i → i < stop → get_or (take start words ++ piece ++ drop stop words) i 0 ≡ get_or piece (i - start) 0
  spliced_at i low high = get_or_append_left (take start words ++ piece) (drop stop words) 0 i (omega (arith, both_length))
      ∙ get_or-append_right (take start words) piece start i 0 front_length low

  pub spliced_after : (i : ℕ) → stop ≤ i → get_or (take start words ++ piece ++ drop stop words) i 0 ≡ get_or words i 0
  spliced_after i h = get_or-append_right (take start words ++ piece) (drop stop words) stop i 0 both_length h
      ∙ get_or-drop stop words (i - stop) 0 ∙ ap (λ (n : ℕ). get_or words n 0) (let e : stop + (i - stop) ≡ i = omega arith in e)
