-- The lines of text have no more words than their places have room for.
use Rattle.std.proofs.Common.{◌≡◌, ℕ, ◌+◌, ◌*◌, ◌≤◌, Bool, true, false, List, [], ◌∷◌, length, refl, ap, ◌∙◌, arith, length-append}
use Rattle.std.specs.Prelude.{ℤ, not, cond}
use Rattle.std.specs.List.{All, filter, flat_map}
use Rattle.std.proofs.lemmas.List.Elements.{All-head, All-tail}
use Rattle.asm_parse.specs.declared.place.Place.{Place}
use Rattle.asm_parse.specs.Lines.{lines_of}
use Rattle.asm_parse.specs.Assembly.{Before, Step, Statement, Nothing, Switch, Emit, Zeros, MoveTo, Define, at_start, after_step, codes_of, moved, size_of, step_of, steps_from, steps_of}
use Rattle.asm_link.specs.Rounds.{before_of}

-- a line of text has room for its words
abbrev pub IsLong : List (List ℕ × ℤ) → Step → Type 0
IsLong names step = step.place.in_data ≡ false → 4 * length (codes_of names step) ≤ size_of step.does

-- whether a line is in text
abbrev in_text : Step → Bool
in_text step = not step.place.in_data

-- how many words the lines of text have
abbrev words : List (List ℕ × ℤ) → List Step → ℕ
words names steps = length (flat_map (codes_of names) (filter in_text steps))

pub text_moved : (does : Statement) (place : Place) → place.in_data ≡ false → (moved does place).text_at ≡ place.text_at + size_of does
text_moved Nothing place text = grind (arith, text)
text_moved (Switch in_data) place text = grind (arith, text)
text_moved (Emit items) place text = grind (arith, text)
text_moved (Zeros count) place text = grind (arith, text)
text_moved (MoveTo address) place text = grind (arith, text)
text_moved (Define name n) place text = grind (arith, text)

pub text_stays : (does : Statement) (place : Place) → place.in_data ≡ true → (moved does place).text_at ≡ place.text_at
text_stays Nothing place there = grind (arith, there)
text_stays (Switch in_data) place there = grind (arith, there)
text_stays (Emit items) place there = grind (arith, there)
text_stays (Zeros count) place there = grind (arith, there)
text_stays (MoveTo address) place there = grind (arith, there)
text_stays (Define name n) place there = grind (arith, there)

one_more : (names : List (List ℕ × ℤ)) (step : Step) (steps : List Step) (in_data : Bool) → step.place.in_data ≡ in_data → IsLong names step
    → step.place.text_at + 4 * words names (step ∷ steps) ≤ (moved step.does step.place).text_at + 4 * words names steps
one_more names step steps true there long = rw (text_stays step.does step.place there) (rw there (omega arith))
one_more names step steps false text long =
    let kept : filter in_text (step ∷ steps) ≡ step ∷ filter in_text steps = ap (λ (b : Bool). cond (not b) (step ∷ filter in_text steps) (filter in_text steps)) text in
    let more : words names (step ∷ steps) ≡ length (codes_of names step) + words names steps =
    ap (λ (k : List Step). length (flat_map (codes_of names) k)) kept ∙ length-append (codes_of names step) (flat_map (codes_of names) (filter in_text steps)) in
    rw (text_moved step.does step.place text) (rw more (omega (arith, long text)))

from : (names : List (List ℕ × ℤ)) (number : ℕ) (b : Before) (lines : List (List ℕ)) → All (IsLong names) (steps_from number b lines)
    → b.place.text_at + 4 * words names (steps_from number b lines) ≤ (before_of b (steps_from number b lines)).place.text_at
unfolding steps_from before_of step_of after_step
from names number b [] long = omega arith
from names number b (line ∷ lines) long =
    let step = step_of number b line in
    let later = steps_from (number + 1) (after_step b step) lines in
    let here = one_more names step later step.place.in_data refl (All-head (IsLong names) step later long) in
    let next = from names (number + 1) (after_step b step) lines (All-tail (IsLong names) step later long) in
    omega (arith, here, next)

pub text_length : (source : List ℕ) (names : List (List ℕ × ℤ)) → All (IsLong names) (steps_of source)
    → 4 * length (flat_map (codes_of names) (filter (λ step. not step.place.in_data) (steps_of source))) ≤ (before_of at_start (steps_of source)).place.text_at
unfolding steps_of
text_length source names long = omega (arith, from names 1 at_start (lines_of source) long)
