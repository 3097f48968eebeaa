-- The readings of a list of lines after each change.
use Rattle.std.proofs.Common.{◌≡◌, ◌≢◌, ℕ, List, [], ◌∷◌, ◌++◌, Option, Some, None, ◌==◌, if◌then◌else◌, set, refl, ap, ◌∙◌, arith}
use Rattle.std.specs.Option.{option_to_list, option_map}
use Rattle.pmsi_model.specs.declared.Mode.{Mode}
use Rattle.pmsi_model.specs.declared.job.Geometry.{Geometry}
use Rattle.pmsi_model.specs.Machine.{mode_of, without, to_front, with_mode}
use Rattle.pmsi_model.specs.Phase.{touched_line}
use Rattle.cache_array.specs.declared.line.CachedLine.{CachedLine}
use Rattle.cache_array.specs.Cache.{held_of, words_of, entry_of, others, touched, put_with, put_first, way_of, way_for, with_line_mode, with_word, place_of}

without-absent : (line : ℕ) (held : List (ℕ × Mode)) → mode_of line held ≡ None → without line held ≡ held
without-absent line [] e = refl
without-absent line (h ∷ hs) e = grind (arith, without-absent line hs)

-- ---- the held list

pub held_of-others : (line : ℕ) (lines : List CachedLine) → held_of (others line lines) ≡ without line (held_of lines)
held_of-others line [] = refl
held_of-others line (l ∷ ls) = grind (arith, held_of-others line ls)

pub held_of-put_with : (line : ℕ) (mode : Mode) (words : List ℕ) (way : ℕ) (lines : List CachedLine) → held_of (put_with line mode words way lines) ≡ to_front line mode (held_of lines)
held_of-put_with line mode words way lines = grind (arith, held_of-others line lines)

pub held_of-with_line_mode : (line : ℕ) (mode : Mode) (lines : List CachedLine) → held_of (with_line_mode line mode lines) ≡ with_mode line mode (held_of lines)
held_of-with_line_mode line mode [] = refl
held_of-with_line_mode line mode (l ∷ ls) = grind (arith, held_of-with_line_mode line mode ls)

pub held_of-with_word : (line place word : ℕ) (lines : List CachedLine) → held_of (with_word line place word lines) ≡ held_of lines
held_of-with_word line place word [] = refl
held_of-with_word line place word (l ∷ ls) = grind (arith, held_of-with_word line place word ls)

pub mode_of-entry : (line : ℕ) (lines : List CachedLine) → mode_of line (held_of lines) ≡ option_map (λ (l : CachedLine). l.mode) (entry_of line lines)
mode_of-entry line [] = refl
mode_of-entry line (l ∷ ls) = grind (arith, mode_of-entry line ls)

pub entry_line : (line : ℕ) (lines : List CachedLine) (e : CachedLine) → entry_of line lines ≡ Some e → (e.line ≡ line) × (words_of line lines ≡ e.words)
entry_line line [] e h = grind arith
entry_line line (l ∷ ls) e h = let r = entry_line line ls e in (grind (arith, r), grind (arith, r))

fronted : (line : ℕ) (lines : List CachedLine) (entry : Option CachedLine) → entry_of line lines ≡ entry → held_of (option_to_list entry ++ others line lines) ≡ touched_line (mode_of line (held_of lines)) line (held_of lines)
fronted line lines None e = rw (mode_of-entry line lines, e) (held_of-others line lines ∙ without-absent line (held_of lines) (mode_of-entry line lines ∙ ap (option_map (λ (l : CachedLine). l.mode)) e))
fronted line lines (Some l) e = rw (mode_of-entry line lines, e, (entry_line line lines l e).0, held_of-others line lines) refl

pub held_of-touched : (line : ℕ) (lines : List CachedLine) → held_of (touched line lines) ≡ touched_line (mode_of line (held_of lines)) line (held_of lines)
held_of-touched line lines = fronted line lines (entry_of line lines) refl

-- ---- the words of a line

words_of-absent : (line : ℕ) (lines : List CachedLine) → entry_of line lines ≡ None → words_of line lines ≡ []
words_of-absent line [] e = refl
words_of-absent line (l ∷ ls) e = grind (arith, words_of-absent line ls)

pub words_of-others : (line k : ℕ) (lines : List CachedLine) → words_of k (others line lines) ≡ (if k == line then [] else words_of k lines)
words_of-others line k [] = grind arith
words_of-others line k (l ∷ ls) = grind (arith, words_of-others line k ls)

pub words_of-put_with : (line k : ℕ) (mode : Mode) (words : List ℕ) (way : ℕ) (lines : List CachedLine) → words_of k (put_with line mode words way lines) ≡ (if k == line then words else words_of k lines)
words_of-put_with line k mode words way lines = grind (arith, words_of-others line k lines)

pub words_of-with_line_mode : (line k : ℕ) (mode : Mode) (lines : List CachedLine) → words_of k (with_line_mode line mode lines) ≡ words_of k lines
words_of-with_line_mode line k mode [] = refl
words_of-with_line_mode line k mode (l ∷ ls) = grind (arith, words_of-with_line_mode line k mode ls)

pub words_of-with_word : (line k place word : ℕ) (lines : List CachedLine) → words_of k (with_word line place word lines) ≡ (if k == line then set (words_of line lines) place word else words_of k lines)
words_of-with_word line k place word [] = grind arith
words_of-with_word line k place word (l ∷ ls) = grind (arith, words_of-with_word line k place word ls)

words_fronted : (line k : ℕ) (lines : List CachedLine) (entry : Option CachedLine) → entry_of line lines ≡ entry → words_of k (option_to_list entry ++ others line lines) ≡ words_of k lines
words_fronted line k lines None e = grind (arith, words_of-others line k lines, words_of-absent line lines e)
words_fronted line k lines (Some l) e = grind (arith, words_of-others line k lines, entry_line line lines l e)

pub words_of-touched : (line k : ℕ) (lines : List CachedLine) → words_of k (touched line lines) ≡ words_of k lines
words_of-touched line k lines = words_fronted line k lines (entry_of line lines) refl

-- ---- the way of a line

entry_of-others : (line k : ℕ) (lines : List CachedLine) → entry_of k (others line lines) ≡ (if k == line then None else entry_of k lines)
entry_of-others line k [] = grind arith
entry_of-others line k (l ∷ ls) = grind (arith, entry_of-others line k ls)

pub way_of-others : (line k : ℕ) (lines : List CachedLine) → way_of k (others line lines) ≡ (if k == line then None else way_of k lines)
way_of-others line k lines = grind (arith, entry_of-others line k lines)

pub way_of-put_with : (line k : ℕ) (mode : Mode) (words : List ℕ) (way : ℕ) (lines : List CachedLine) → way_of k (put_with line mode words way lines) ≡ (if k == line then Some way else way_of k lines)
way_of-put_with line k mode words way lines = grind (arith, entry_of-others line k lines)

way_fronted : (line k : ℕ) (lines : List CachedLine) (entry : Option CachedLine) → entry_of line lines ≡ entry → way_of k (option_to_list entry ++ others line lines) ≡ way_of k lines
way_fronted line k lines None e = grind (arith, way_of-others line k lines, e)
way_fronted line k lines (Some l) e = grind (arith, entry_of-others line k lines, entry_line line lines l e, e)

pub way_of-touched : (line k : ℕ) (lines : List CachedLine) → way_of k (touched line lines) ≡ way_of k lines
way_of-touched line k lines = way_fronted line k lines (entry_of line lines) refl

pub way_of-with_line_mode : (line k : ℕ) (mode : Mode) (lines : List CachedLine) → way_of k (with_line_mode line mode lines) ≡ way_of k lines
way_of-with_line_mode line k mode [] = refl
way_of-with_line_mode line k mode (l ∷ ls) = grind (arith, way_of-with_line_mode line k mode ls)

pub way_of-with_word : (line k place word : ℕ) (lines : List CachedLine) → way_of k (with_word line place word lines) ≡ way_of k lines
way_of-with_word line k place word [] = refl
way_of-with_word line k place word (l ∷ ls) = grind (arith, way_of-with_word line k place word ls)

held_by_place_by : (shape : Geometry) (line place : ℕ) (lines : List CachedLine) (entry : Option CachedLine) → entry_of line lines ≡ entry
    → place_of line (record { shape = shape; lines = lines }) ≡ Some place → mode_of line (held_of lines) ≢ None
held_by_place_by shape line place lines None e found none = cc
held_by_place_by shape line place lines (Some l) e found none = let mode = mode_of-entry line lines ∙ ap (option_map (λ (l : CachedLine). l.mode)) e in cc

-- a line with a place is held
pub held_by_place : (shape : Geometry) (line place : ℕ) (lines : List CachedLine) → place_of line (record { shape = shape; lines = lines }) ≡ Some place → mode_of line (held_of lines) ≢ None
held_by_place shape line place lines found = held_by_place_by shape line place lines (entry_of line lines) refl found

-- ---- a line that was put

pub held_of-put_first : (shape : Geometry) (line : ℕ) (mode : Mode) (words : List ℕ) (lines : List CachedLine) → held_of (put_first shape line mode words lines) ≡ to_front line mode (held_of lines)
held_of-put_first shape line mode words lines = held_of-put_with line mode words (way_for shape line lines) lines

pub words_of-put_first : (shape : Geometry) (line k : ℕ) (mode : Mode) (words : List ℕ) (lines : List CachedLine) → words_of k (put_first shape line mode words lines) ≡ (if k == line then words else words_of k lines)
words_of-put_first shape line k mode words lines = words_of-put_with line k mode words (way_for shape line lines) lines
