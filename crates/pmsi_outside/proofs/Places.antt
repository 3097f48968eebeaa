-- The first entry of a name.
use Rattle.std.proofs.Common.{◌≡◌, ℕ, ◌<◌, ◌≤◌, Bool, true, false, cond, nat_lt, List, [], ◌∷◌, length, get_or, refl, sym, ◌∙◌, ap, arith, None, Some, String, Vec, string_bytes}
use Rattle.std.proofs.lemmas.List.{get_or-map}
use Rattle.std.proofs.lemmas.List.Recursion.{found_at, found_nowhere}
use Rattle.std.proofs.lemmas.List.Quantifiers.{position-Some}
use Rattle.std.proofs.lemmas.List.Sums.{fails_before_first}
use Rattle.std.proofs.lemmas.Bool.Decides.{nat_tests}
use Rattle.std.proofs.lemmas.Grind.{common_steps}
use Rattle.std.specs.List.{position, position_or_len}
use Rattle.std.specs.Str.{bytes_eq}
use Rattle.std.specs.declared.alloc.Global.{Global}
use Rattle.pmsi_outside.specs.Memory.{entries_of, contents_of, bytes_at}

abbrev File : Type 0
File = String Global × Vec ℕ Global

abbrev named : List ℕ → File → Bool
named name entry = bytes_eq (string_bytes entry.0) name

pub bytes_at_place : (list : List File) (place : ℕ) (file : File) → place < length list → bytes_at (entries_of list) place ≡ (get_or list place file).1.items
bytes_at_place list place file below = ap (λ (entry : List ℕ × List ℕ). entry.1) (get_or-map (λ (entry : File). (string_bytes entry.0, entry.1.items)) list place file ([], []) below)

pub place_found : (list : List File) (name : List ℕ) (place : ℕ) → position (named name) list ≡ Some place → (place < length list) × (contents_of (entries_of list) name ≡ Some (bytes_at (entries_of list) place))
place_found [] name place e = absurd (cc)
place_found (file ∷ list) name place e =
    let at : (place < length (file ∷ list)) × (named name (get_or (file ∷ list) place file) ≡ true) × ((k : ℕ) → k < place → named name (get_or (file ∷ list) k file) ≡ false) = position-Some (named name) (file ∷ list) place file e in
    (at.0, found_at (λ (files : List File). contents_of (entries_of files) name) (named name) (λ (entry : File). Some entry.1.items) None refl (λ entry files. refl) (file ∷ list) place file at.0 at.2 at.1 ∙ ap Some (sym (bytes_at_place (file ∷ list) place file at.0)))

not_below : (m n k : ℕ) → cond (nat_lt m n) (Some k) None ≡ None → n ≤ m
not_below m n k e = grind (arith, nat_tests, common_steps)

none_before : (list : List File) (name : List ℕ) → position (named name) list ≡ None → length list ≤ position_or_len (named name) list
none_before list name e = not_below _ _ _ e

pub place_none : (list : List File) (name : List ℕ) → position (named name) list ≡ None → contents_of (entries_of list) name ≡ None
place_none [] name e = refl
place_none (file ∷ list) name e =
    let none : length (file ∷ list) ≤ position_or_len (named name) (file ∷ list) = none_before (file ∷ list) name e in
    found_nowhere (λ (files : List File). contents_of (entries_of files) name) (named name) (λ (entry : File). Some entry.1.items) None refl (λ entry files. refl) (file ∷ list) file (λ k below. fails_before_first (named name) (file ∷ list) k file (omega (arith, none, below)))
