-- What a contract sees of a cache: its shape and its lines, most recently used first.
use Rattle.std.specs.Prelude.{◌≡◌, ◌≢◌, ℕ, zero, suc, ◌+◌, ◌*◌, ◌/◌, Bool, false, ◌&&◌, ◌||◌, ◌%◌, ◌≤◌, List, [], ◌∷◌, ◌++◌, map, length, slice_set, not, ◌==◌, Option, None, if◌then◌else◌}
use Rattle.std.specs.List.{filter, find}
use Rattle.std.specs.Option.{option_to_list, option_map, unwrap_or}
use Rattle.pmsi_model.specs.declared.job.Geometry.{Geometry}
use Rattle.pmsi_model.specs.declared.Mode.{Mode}
use Rattle.pmsi_model.specs.Geometry.{IsGeometry, line_bytes, set_of}
use Rattle.pmsi_model.specs.Machine.{mode_of}
use Rattle.pmsi_model.specs.Phase.{set_lines}
use Rattle.pmsi_model.specs.Coherent.{HoldsEachOnce}
use Rattle.cache_array.specs.declared.line.CachedLine.{CachedLine}

pub record CacheValue : Type 0 where
  pub shape : Geometry
  pub lines : List CachedLine

-- ---- readings

-- the lines with their modes, as the machine has them
abbrev pub held_of : List CachedLine → List (ℕ × Mode)
held_of lines = map (λ l. (l.line, l.mode)) lines

-- the line is held
abbrev pub Holds : ℕ → List CachedLine → Type 0
Holds line lines = mode_of line (held_of lines) ≢ None

-- the words of a line, and none where it isn't held
abbrev pub words_of : ℕ → List CachedLine → List ℕ
words_of line [] = []
words_of line (l ∷ ls) = if l.line == line then l.words else words_of line ls

-- a line with its mode and words, where it is held
abbrev pub entry_of : ℕ → List CachedLine → Option CachedLine
entry_of line lines = find (λ l. l.line == line) lines

-- the way in which a line stands, where it is held
abbrev pub way_of : ℕ → List CachedLine → Option ℕ
way_of line lines = option_map (λ l. l.way) (entry_of line lines)

-- a line of the set stands in this way
abbrev pub is_taken : Geometry → ℕ → ℕ → List CachedLine → Bool
is_taken shape set way [] = false
is_taken shape set way (l ∷ ls) = ((set_of shape l.line == set) && (l.way == way)) || is_taken shape set way ls

-- the least way that isn't taken among so many from a way on
abbrev pub free_from : Geometry → ℕ → List CachedLine → ℕ → ℕ → ℕ
free_from shape set lines zero way = way
free_from shape set lines (suc count) way = if is_taken shape set way lines then free_from shape set lines count (way + 1) else way

-- the place of a line among the entries of all sets, each set with its ways after the one before: where it is held
abbrev pub place_of : ℕ → CacheValue → Option ℕ
place_of line c = option_map (λ way. set_of c.shape line * c.shape.ways + way) (way_of line c.lines)

-- the way for a line: its own, else the least free one of its set
unfoldable pub way_for : Geometry → ℕ → List CachedLine → ℕ
way_for shape line lines = unwrap_or (way_of line lines) (free_from shape (set_of shape line) lines shape.ways 0)

-- no other line of its set stands in the way of a held line
abbrev pub HasOwnWay : ℕ → CacheValue → Type 0
HasOwnWay line c = Holds line c.lines → (other : ℕ) → set_of c.shape other ≡ set_of c.shape line → way_of other c.lines ≡ way_of line c.lines → other ≡ line

-- the place of an address's word among the words of its line
abbrev pub word_place : Geometry → ℕ → ℕ
word_place shape address = address % line_bytes shape / 4

-- ---- changes

-- the lines without one of them
abbrev pub others : ℕ → List CachedLine → List CachedLine
others line lines = filter (λ l. not (l.line == line)) lines

-- the line goes to the front
abbrev pub touched : ℕ → List CachedLine → List CachedLine
touched line lines = option_to_list (entry_of line lines) ++ others line lines

-- the line stands at the front, with this mode, these words and this way
abbrev pub put_with : ℕ → Mode → List ℕ → ℕ → List CachedLine → List CachedLine
put_with line mode words way lines = record { line = line; mode = mode; words = words; way = way } ∷ others line lines

-- the line stands at the front, with this mode and these words: in the way that it has, else in the least free one of its set
abbrev pub put_first : Geometry → ℕ → Mode → List ℕ → List CachedLine → List CachedLine
put_first shape line mode words lines = put_with line mode words (way_for shape line lines) lines

-- the line changes in its place
abbrev pub with_line : ℕ → (CachedLine → CachedLine) → List CachedLine → List CachedLine
with_line line f lines = map (λ l. if l.line == line then f l else l) lines

-- the line gets another mode
abbrev pub with_line_mode : ℕ → Mode → List CachedLine → List CachedLine
with_line_mode line mode lines = with_line line (λ l. record l { mode = mode }) lines

-- the line gets another word at a place
abbrev pub with_word : ℕ → ℕ → ℕ → List CachedLine → List CachedLine
with_word line place word lines = with_line line (λ l. record l { words = slice_set l.words place word }) lines

-- ---- the invariant

-- each line has so many words
abbrev pub HasWords : ℕ → List CachedLine → Type 0
HasWords count [] = Unit {0}
HasWords count (l ∷ ls) = (length l.words ≡ count) × HasWords count ls

pub record IsCache (c : CacheValue) : Type 0 where
  pub shape : IsGeometry c.shape
  -- no line is held twice
  pub once : HoldsEachOnce (held_of c.lines)
  -- at most as many lines of a set are held as there are ways
  pub within : (line : ℕ) → length (set_lines c.shape line (held_of c.lines)) ≤ c.shape.ways
  -- each has the words of a line
  pub words : HasWords c.shape.line_words c.lines
