-- What the readers of lines to write back say after each change.
use Rattle.std.proofs.Common.{◌≡◌, ℕ, ◌+◌, ◌≤◌, List, [], ◌∷◌, ◌++◌, length, true, false, not, ◌==◌, ◌&&◌, ◌||◌, refl, arith}
use Rattle.std.specs.List.{filter}
use Rattle.pmsi_model.specs.Machine.{has_line, append_once}
use Rattle.pmsi_model.specs.Coherent.{ListsEachOnce}
use Rattle.pmsi_model.specs.Waiting.{place_of}

pub line_more : (l line : ℕ) (lines : List ℕ) → has_line l (lines ++ line ∷ []) ≡ (has_line l lines || line == l)
line_more l line [] = grind arith
line_more l line (x ∷ lines) = grind (arith, line_more l line lines)

pub line_append_once : (l line : ℕ) (lines : List ℕ) → has_line l (append_once line lines) ≡ (has_line l lines || line == l)
line_append_once l line lines = grind (arith, line_more l line lines)

pub once_more : (line : ℕ) (lines : List ℕ) → ListsEachOnce lines → has_line line lines ≡ false → ListsEachOnce (lines ++ line ∷ [])
once_more line [] once new = (refl, tt)
once_more line (x ∷ lines) once new = (grind (arith, line_more x line lines, once.0), once_more line lines once.1 (grind arith))

pub once_append_once : (line : ℕ) (lines : List ℕ) → ListsEachOnce lines → ListsEachOnce (append_once line lines)
once_append_once line lines once = grind (arith, once_more line lines once)

pub line_kept : (l : ℕ) (lines more : List ℕ) → has_line l lines ≡ true → has_line l (lines ++ more) ≡ true
line_kept l [] more has = absurd (grind arith)
line_kept l (x ∷ lines) more has = grind (arith, line_kept l lines more)

-- ---- lines without one of them

abbrev pub without_line : ℕ → List ℕ → List ℕ
without_line line lines = filter (λ l. not (l == line)) lines

pub line_less : (l line : ℕ) (lines : List ℕ) → has_line l (without_line line lines) ≡ (has_line l lines && not (l == line))
line_less l line [] = refl
line_less l line (x ∷ lines) = grind (arith, line_less l line lines)

pub lines_once_less : (line : ℕ) (lines : List ℕ) → ListsEachOnce lines → ListsEachOnce (without_line line lines)
lines_once_less line [] once = once
lines_once_less line (x ∷ lines) once = grind (arith, line_less x line lines, lines_once_less line lines once.1)

-- ---- places

-- a line that is there keeps its place when others are added
pub place_kept : (l : ℕ) (lines more : List ℕ) → has_line l lines ≡ true → place_of l (lines ++ more) ≡ place_of l lines
place_kept l [] more has = absurd (grind arith)
place_kept l (x ∷ lines) more has = grind (arith, place_kept l lines more)

pub place_append_once : (l line : ℕ) (lines : List ℕ) → has_line l lines ≡ true → place_of l (append_once line lines) ≡ place_of l lines
place_append_once l line lines has = grind (arith, place_kept l lines (line ∷ []))

-- a place is below the number of lines
pub place_within : (l : ℕ) (lines : List ℕ) → has_line l lines ≡ true → place_of l lines + 1 ≤ length lines
place_within l [] has = absurd (grind arith)
place_within l (x ∷ lines) has = grind (arith, place_within l lines)
