-- Bytes up to their first mark.
use Rattle.std.proofs.Common.{◌≡◌, ℕ, ◌+◌, ◌-◌, ◌<◌, ◌≤◌, Bool, true, false, cond, Some, refl, List, [], ◌∷◌, length, take, drop, sym, ◌∙◌, arith, length-drop}
use Rattle.std.specs.Prelude.{◌==◌}
use Rattle.std.specs.List.{onto_first, position_or_len, slice_split}
use Rattle.std.proofs.lemmas.Bool.{ne_eqb}
use Rattle.std.proofs.lemmas.List.{take_all}
use Rattle.std.proofs.lemmas.List.Splits.{slice_split_none, slice_split_first, length-slice_split}
use Rattle.std.proofs.lemmas.List.Sums.{fails_before_first}
use Rattle.trace_text.specs.Reading.{first_line, is_last}

-- there is none
pub no_mark : (p : ℕ → Bool) (bytes : List ℕ) (end : ℕ) → end ≡ position_or_len p bytes → length bytes ≤ end → slice_split p bytes ≡ bytes ∷ []
no_mark p bytes end is all = slice_split_none p bytes (λ k d low. fails_before_first p bytes k d (omega arith))

-- there is one
pub at_mark : (p : ℕ → Bool) (bytes : List ℕ) (end : ℕ) → end ≡ position_or_len p bytes → end < length bytes
    → slice_split p bytes ≡ take end bytes ∷ slice_split p (take (length bytes - (end + 1)) (drop (end + 1) bytes))
at_mark p bytes end is low =
    let rest : take (length bytes - (end + 1)) (drop (end + 1) bytes) ≡ drop (end + 1) bytes =
    take_all (length bytes - (end + 1)) (drop (end + 1) bytes) (omega (arith, length-drop (end + 1) bytes)) in
    rw (rest, is) (slice_split_first p bytes 0 (omega arith))

-- there are parts
pub some_part : (p : ℕ → Bool) (bytes : List ℕ) → 0 < length (slice_split p bytes)
some_part p bytes = omega (arith, length-slice_split p bytes)

-- a part with a mark behind it
pub before_parts : (line : List ℕ) (parts : List (List ℕ)) → 0 < length parts → first_line (line ∷ parts) ≡ Some (line, parts)
before_parts line [] some = absurd (omega arith)
before_parts line (part ∷ parts) some = refl

pub cut_whole : (p : ℕ → Bool) (bytes line rest : List ℕ) → slice_split p bytes ≡ line ∷ slice_split p rest → first_line (slice_split p bytes) ≡ Some (line, slice_split p rest)
cut_whole p bytes line rest is = rw is (before_parts line (slice_split p rest) (some_part p rest))

-- only the end is left
over_by : (byte : ℕ) (mark : Bool) (parts : List (List ℕ)) → 0 < length parts → is_last (cond mark ([] ∷ parts) (onto_first byte parts)) ≡ false
over_by byte mark [] some = absurd (omega arith)
over_by byte true (part ∷ parts) some = refl
over_by byte false (part ∷ parts) some = refl

pub over : (mark : ℕ) (bytes : List ℕ) → is_last (slice_split (λ byte. byte == mark) bytes) ≡ (length bytes == 0)
over mark [] = refl
over mark (byte ∷ bytes) =
    over_by byte (byte == mark) (slice_split (λ b. b == mark) bytes) (some_part (λ b. b == mark) bytes) ∙ sym (ne_eqb (length (byte ∷ bytes)) 0 (λ none. omega arith))
