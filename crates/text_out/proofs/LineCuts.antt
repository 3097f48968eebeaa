-- Lines by the first newline of a source.
use Rattle.std.proofs.Common.{◌≡◌, ◌≢◌, ℕ, ◌+◌, ◌<◌, Option, Bor, false, List, [], ◌∷◌, ◌++◌, ◌-◌, length, take, get_or, refl, sym, subst, ap, ◌∙◌, arith, length-append}
use Rattle.std.specs.Prelude.{slice_index, MatchOption, Bool, ◌==◌}
use Rattle.std.specs.List.{All, slice_split, position_or_len, before_first, after_first}
use Rattle.std.specs.Str.Lines.{lines_of_parts, strip_carriage_return}
use Rattle.std.proofs.lemmas.List.Splits.{slice_split_none, slice_split_at, slice_split_first, length-slice_split}
use Rattle.std.proofs.lemmas.List.Sums.{fails_before_first}
use Rattle.std.proofs.lemmas.List.{get_or_push, take_more, take_all}
use Rattle.std.proofs.Math.Seq.{take-append_seam}
use Rattle.std.proofs.lemmas.Bool.{ne_eqb}
use Rattle.std.proofs.lemmas.Bool.Decides.{nat_tests}
use Rattle.std.specs.Str.Lines.{lines}

abbrev pub is_newline : ℕ → Bool
is_newline b = b == 10

-- the parts round the first newline, where there is one
abbrev pub IsCut : List ℕ → Option (Bor (List ℕ) × Bor (List ℕ)) → Type 0
IsCut source parts = MatchOption parts (position_or_len is_newline source ≡ length source)
    (λ x. (position_or_len is_newline source < length source) × (x.0.now ≡ before_first is_newline source) × (x.1.now ≡ after_first is_newline source))

-- a part before a newline
before_more : (part : List ℕ) (parts : List (List ℕ)) → 0 < length parts → lines_of_parts (part ∷ parts) ≡ strip_carriage_return part ∷ lines_of_parts parts
before_more part [] some = absurd (omega arith)
before_more part (next ∷ parts) some = refl

some_part : (source : List ℕ) → 0 < length (slice_split is_newline source)
some_part source = omega (arith, length-slice_split is_newline source)

pub none : lines [] ≡ []
none = refl

-- up to a newline
pub cut_first : (source : List ℕ) → position_or_len is_newline source < length source → lines source ≡ strip_carriage_return (before_first is_newline source) ∷ lines (after_first is_newline source)
cut_first source low =
    ap lines_of_parts (slice_split_first is_newline source 0 low) ∙ before_more (before_first is_newline source) (slice_split is_newline (after_first is_newline source)) (some_part (after_first is_newline source))

pub first : (line rest : List ℕ) → All (λ b. b ≢ 10) line → lines (line ++ 10 ∷ rest) ≡ strip_carriage_return line ∷ lines rest
first line rest other =
    let plain : All (λ b. is_newline b ≡ false) line = λ k d low. ne_eqb (get_or line k d) 10 (other k d low) in
    ap lines_of_parts (slice_split_at is_newline line 10 rest plain refl) ∙ before_more line (slice_split is_newline rest) (some_part rest)

one_more : (b : ℕ) (source : List ℕ) → lines_of_parts ((b ∷ source) ∷ []) ≡ (b ∷ source) ∷ []
one_more b source = grind (arith, nat_tests)

-- a last line
whole : (source : List ℕ) → 0 < length source → All (λ b. is_newline b ≡ false) source → lines source ≡ source ∷ []
whole [] some plain = absurd (omega arith)
whole (b ∷ source) some plain = ap lines_of_parts (slice_split_none is_newline (b ∷ source) plain) ∙ one_more b source

pub last : (line : List ℕ) → 0 < length line → All (λ b. b ≢ 10) line → lines line ≡ line ∷ []
last line some other = whole line some (λ k d low. ne_eqb (get_or line k d) 10 (other k d low))

pub cut_last : (source : List ℕ) → 0 < length source → position_or_len is_newline source ≡ length source → lines source ≡ source ∷ []
cut_last source some end = whole source some (λ k d low. fails_before_first is_newline source k d (omega arith))

pub empty : (source : List ℕ) → length source ≡ 0 → lines source ≡ []
empty [] e = none
empty (b ∷ source) e = absurd (omega arith)

pub cut_into : (source line kept rest : List ℕ) → position_or_len is_newline source < length source → line ≡ before_first is_newline source → rest ≡ after_first is_newline source → kept ≡ strip_carriage_return line
    → lines source ≡ kept ∷ lines rest
cut_into source line kept rest low front behind same = rw (behind, same, front) (cut_first source low)

-- a byte 13 at the end of a line
strip_back : (front : List ℕ) → strip_carriage_return (front ++ 13 ∷ []) ≡ front
strip_back front =
    let end : length (front ++ 13 ∷ []) - 1 ≡ length front = omega (arith, length-append front (13 ∷ [])) in
    rw end (rw (get_or_push front 13 0 (length front) refl) (take-append_seam front (13 ∷ [])))

pub stripped : (line front : List ℕ) → line ≡ front ++ 13 ∷ [] → front ≡ strip_carriage_return line
stripped line front e = rw e (sym (strip_back front))

no_return : (line : List ℕ) → ((front : List ℕ) → line ≢ front ++ 13 ∷ []) → slice_index line (length line - 1) ≢ 13
no_return [] other is = absurd (omega arith)
no_return (b ∷ bs) other is =
    let last : take (length bs + 1) (b ∷ bs) ≡ take (length bs) (b ∷ bs) ++ get_or (b ∷ bs) (length bs) 0 ∷ [] = take_more (b ∷ bs) (length bs) 0 (omega arith) in
    let all : take (length bs + 1) (b ∷ bs) ≡ b ∷ bs = take_all (length bs + 1) (b ∷ bs) (omega arith) in
    let place : length (b ∷ bs) - 1 ≡ length bs = omega arith in
    let byte : get_or (b ∷ bs) (length bs) 0 ≡ 13 = subst (λ k. get_or (b ∷ bs) k 0 ≡ 13) place is in
    other (take (length bs) (b ∷ bs)) (sym all ∙ last ∙ ap (λ x. take (length bs) (b ∷ bs) ++ x ∷ []) byte)

pub kept : (line : List ℕ) → ((front : List ℕ) → line ≢ front ++ 13 ∷ []) → line ≡ strip_carriage_return line
kept line other = rw (ne_eqb (slice_index line (length line - 1)) 13 (no_return line other)) refl
