-- What holds of a cache stays so at each change.
use Rattle.std.proofs.Common.{◌≡◌, ◌≢◌, ◌⊎◌, ℕ, zero, suc, ◌+◌, ◌*◌, ◌/◌, ◌%◌, ◌<◌, ◌≤◌, List, [], ◌∷◌, ◌++◌, length, Option, Some, None, true, ◌==◌, refl, sym, ap, ◌∙◌, subst, arith, inl, inr, lit<}
use Rattle.std.specs.List.{filter}
use Rattle.std.specs.Int.{is_power_of_two}
use Rattle.std.proofs.lemmas.List.{length-set}
use Rattle.std.proofs.lemmas.Nat.{mod_below, mul-le}
use Rattle.std.proofs.Math.Nat.{suc-mul}
use Rattle.std.specs.Option.{option_to_list, option_map}
use lib.Count.{ones, ones-le}
use Rattle.pmsi_model.specs.declared.job.Geometry.{Geometry}
use Rattle.pmsi_model.specs.declared.Mode.{Mode}
use Rattle.pmsi_model.specs.Geometry.{IsGeometry, line_bytes, set_of}
use Rattle.pmsi_model.specs.Machine.{mode_of, to_front}
use Rattle.pmsi_model.specs.Phase.{set_lines}
use Rattle.cache_array.specs.declared.line.CachedLine.{CachedLine}
use Rattle.cache_array.specs.Cache.{CacheValue, IsCache, HasWords, held_of, words_of, entry_of, others, touched, put_with, with_line_mode, with_word, word_place}
use Rattle.pmsi_model.proofs.Held.{once_without, once_to_front, once_with_mode, fewer_without, same_with_mode}
use Rattle.cache_array.proofs.Lines.{held_of-others, held_of-with_line_mode, held_of-with_word, mode_of-entry, entry_line}

-- ---- the lines of a set

set_lines-held : (shape : Geometry) (line k : ℕ) (mode : Mode) (held : List (ℕ × Mode)) → mode_of line held ≢ None → length (set_lines shape k (to_front line mode held)) ≤ length (set_lines shape k held)
set_lines-held shape line k mode [] n = grind arith
set_lines-held shape line k mode (h ∷ hs) n = grind (arith, set_lines-held shape line k mode hs, fewer_without shape k line hs)

set_lines-same : (shape : Geometry) (line k : ℕ) (held : List (ℕ × Mode)) → set_of shape line ≡ set_of shape k → set_lines shape line held ≡ set_lines shape k held
set_lines-same shape line k held e = ap (λ (s : ℕ). filter (λ (h : ℕ × Mode). set_of shape h.0 == s) held) e

set_lines-room : (shape : Geometry) (line k : ℕ) (mode : Mode) (held : List (ℕ × Mode)) → length (set_lines shape line held) < shape.ways → length (set_lines shape k held) ≤ shape.ways
    → length (set_lines shape k (to_front line mode held)) ≤ shape.ways
set_lines-room shape line k mode held room within = grind (arith, set_lines-same shape line k held, fewer_without shape k line held)

set_lines-put : (shape : Geometry) (line k : ℕ) (mode : Mode) (held : List (ℕ × Mode)) → mode_of line held ≢ None ⊎ (length (set_lines shape line held) < shape.ways) → length (set_lines shape k held) ≤ shape.ways
    → length (set_lines shape k (to_front line mode held)) ≤ shape.ways
set_lines-put shape line k mode held (inl n) within = let less = set_lines-held shape line k mode held n in omega arith
set_lines-put shape line k mode held (inr room) within = set_lines-room shape line k mode held room within

-- ---- words

words-others : (count line : ℕ) (lines : List CachedLine) → HasWords count lines → HasWords count (others line lines)
words-others count line [] has = has
words-others count line (l ∷ ls) has = grind (arith, words-others count line ls has.1, has.0)

words-with_line_mode : (count line : ℕ) (mode : Mode) (lines : List CachedLine) → HasWords count lines → HasWords count (with_line_mode line mode lines)
words-with_line_mode count line mode [] has = has
words-with_line_mode count line mode (l ∷ ls) has = grind (arith, words-with_line_mode count line mode ls has.1, has.0)

words-with_word : (count line place word : ℕ) (lines : List CachedLine) → HasWords count lines → HasWords count (with_word line place word lines)
words-with_word count line place word [] has = has
words-with_word count line place word (l ∷ ls) has = grind (arith, words-with_word count line place word ls has.1, has.0, length-set l.words place word)

pub words_of-length : (count line : ℕ) (lines : List CachedLine) → HasWords count lines → mode_of line (held_of lines) ≢ None → length (words_of line lines) ≡ count
words_of-length count line [] has n = grind arith
words_of-length count line (l ∷ ls) has n = grind (arith, words_of-length count line ls has.1, has.0)

-- ---- the whole

held_lines : (c : CacheValue) (lines : List CachedLine) → IsCache c → held_of lines ≡ held_of c.lines → HasWords c.shape.line_words lines → IsCache (record { shape = c.shape; lines = lines })
held_lines c lines is e has = record {
  shape = is.shape;
  once = rw e is.once;
  within = rw e is.within;
  words = has;
}

pub IsCache-put_with : (c : CacheValue) (line : ℕ) (mode : Mode) (words : List ℕ) (way : ℕ) → IsCache c → mode_of line (held_of c.lines) ≢ None ⊎ (length (set_lines c.shape line (held_of c.lines)) < c.shape.ways) → length words ≡ c.shape.line_words
    → IsCache (record { shape = c.shape; lines = put_with line mode words way c.lines })
IsCache-put_with c line mode words way is room long = record {
  shape = is.shape;
  once = rw (held_of-others line c.lines) (once_to_front line mode (held_of c.lines) is.once);
  within = λ k. rw (held_of-others line c.lines) (set_lines-put c.shape line k mode (held_of c.lines) room (is.within k));
  words = (long, words-others c.shape.line_words line c.lines is.words);
}

pub IsCache-others : (c : CacheValue) (line : ℕ) → IsCache c → IsCache (record { shape = c.shape; lines = others line c.lines })
IsCache-others c line is = record {
  shape = is.shape;
  once = rw (held_of-others line c.lines) (once_without line (held_of c.lines) is.once);
  within = λ k. rw (held_of-others line c.lines) (let a = is.within k in let b = fewer_without c.shape k line (held_of c.lines) in omega arith);
  words = words-others c.shape.line_words line c.lines is.words;
}

IsCache-fronted : (c : CacheValue) (line : ℕ) (entry : Option CachedLine) → IsCache c → entry_of line c.lines ≡ entry → IsCache (record { shape = c.shape; lines = option_to_list entry ++ others line c.lines })
IsCache-fronted c line None is e = IsCache-others c line is
IsCache-fronted c line (Some l) is e =
    let at = entry_line line c.lines l e in
    let held : mode_of line (held_of c.lines) ≡ Some l.mode = mode_of-entry line c.lines ∙ ap (option_map (λ (x : CachedLine). x.mode)) e in
    let is_held : mode_of line (held_of c.lines) ≢ None = λ none. cc in
    let long : length l.words ≡ c.shape.line_words = ap length (sym at.1) ∙ words_of-length c.shape.line_words line c.lines is.words is_held in
    subst (λ (k : ℕ). IsCache (record { shape = c.shape; lines = record { line = k; mode = l.mode; words = l.words; way = l.way } ∷ others line c.lines })) (sym at.0) (IsCache-put_with c line l.mode l.words l.way is (inl is_held) long)

pub IsCache-touched : (c : CacheValue) (line : ℕ) → IsCache c → IsCache (record { shape = c.shape; lines = touched line c.lines })
IsCache-touched c line is = IsCache-fronted c line (entry_of line c.lines) is refl

pub IsCache-with_line_mode : (c : CacheValue) (line : ℕ) (mode : Mode) → IsCache c → IsCache (record { shape = c.shape; lines = with_line_mode line mode c.lines })
IsCache-with_line_mode c line mode is = record {
  shape = is.shape;
  once = rw (held_of-with_line_mode line mode c.lines) (once_with_mode line mode (held_of c.lines) is.once);
  within = λ k. rw (held_of-with_line_mode line mode c.lines, same_with_mode c.shape k line mode (held_of c.lines)) (is.within k);
  words = words-with_line_mode c.shape.line_words line mode c.lines is.words;
}

pub IsCache-with_word : (c : CacheValue) (line place word : ℕ) → IsCache c → IsCache (record { shape = c.shape; lines = with_word line place word c.lines })
IsCache-with_word c line place word is = held_lines c (with_word line place word c.lines) is (held_of-with_word line place word c.lines) (words-with_word c.shape.line_words line place word c.lines is.words)

-- ---- the sets

pub some_from_power : (n : ℕ) → is_power_of_two n ≡ true → 0 < n
some_from_power zero e = let none : ones 0 ≤ 0 = ones-le 0 0 (lit< tt) in absurd (grind (arith, none))
some_from_power (suc n) e = omega arith

-- a set's entries are entries of the array
pub set_within : (shape : Geometry) (line : ℕ) → IsGeometry shape → set_of shape line * shape.ways + shape.ways ≤ shape.sets * shape.ways
set_within shape line is =
    let below : set_of shape line < shape.sets = mod_below line shape.sets (some_from_power shape.sets is.sets) in
    let more : suc (set_of shape line) * shape.ways ≡ set_of shape line * shape.ways + shape.ways = suc-mul (set_of shape line) shape.ways in
    let most : suc (set_of shape line) * shape.ways ≤ shape.sets * shape.ways = mul-le (suc (set_of shape line)) shape.ways shape.sets shape.ways below (omega arith) in
    omega arith

-- ---- the place of a word

pub place_within : (shape : Geometry) (address : ℕ) → IsGeometry shape → word_place shape address < shape.line_words
place_within shape address is =
    let least : 4 ≤ shape.line_words = is.least_line in
    let below : address % line_bytes shape < 4 * shape.line_words = mod_below address (line_bytes shape) (omega arith) in
    let rest : ℕ = address % line_bytes shape in
    let below' : rest < 4 * shape.line_words = below in
    let short : rest / 4 < shape.line_words = omega arith in short

pub has_place : (c : CacheValue) (line address : ℕ) (words : List ℕ) → IsCache c → mode_of line (held_of c.lines) ≢ None → words_of line c.lines ≡ words → word_place c.shape address < length words
has_place c line address words is held e =
    let long : length words ≡ c.shape.line_words = ap length (sym e) ∙ words_of-length c.shape.line_words line c.lines is.words held in
    let within = place_within c.shape address is.shape in omega arith
