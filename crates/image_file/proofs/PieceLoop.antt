-- Reading pieces one after the other, as a loop does.
use Rattle.std.proofs.Common.{◌≡◌, ℕ, suc, ◌+◌, ◌-◌, ◌<◌, ◌≤◌, List, [], ◌∷◌, ◌++◌, length, map, Some, None, refl, sym, ap, subst, ◌∙◌, append_assoc, arith}
use Rattle.std.specs.List.{flat_map, range_with_len}
use Rattle.pmsi_model.specs.declared.image.Piece.{Piece}
use Rattle.image_file.specs.declared.fault.ImageFault.{ImageFault}
use Rattle.image_file.specs.declared.pieces.Cursor.{Cursor}
use Rattle.image_file.specs.Checks.{Check, first_failing, piece_checks, pieces_checks, piece_count, piece_place, text_end, end_check}
use Rattle.image_file.specs.declared.fault.ImageFault.TheVariants as faults
use Rattle.image_file.specs.Reading.{IsAt, piece_at, pieces_in}
use Rattle.image_file.proofs.Checks.{passes_front, fails_front}
use Rattle.image_file.proofs.Places.{first_place, first_least}
use Rattle.std.proofs.lemmas.Bool.Decides.{nat_tests}
use Rattle.std.proofs.lemmas.List.FromFn.{map-range_with_len_more}

-- the checks from piece i on
unfoldable pub checks_from : List ℕ → ℕ → List Check
checks_from bytes i = flat_map (piece_checks bytes) (range_with_len i (piece_count bytes - i)) ++ end_check bytes ∷ []

-- i pieces were read: a record of what the loop keeps
pub record IsSoFar (bytes : List ℕ) (i : ℕ) (cursor : Cursor) (pieces : List Piece) : Type 0 where
  pub at : IsAt bytes cursor
  pub index : cursor.index ≡ i
  pub rest : first_failing (checks_from bytes i) ≡ first_failing (pieces_checks bytes)
  pub read : pieces ≡ map (piece_at bytes) (range_with_len 0 i)

pub all_from : (bytes : List ℕ) → checks_from bytes 0 ≡ pieces_checks bytes
unfolding checks_from pieces_checks
all_from bytes =
    let k : piece_count bytes - 0 ≡ piece_count bytes = omega arith in
    rw k refl

pub one_more : (bytes : List ℕ) (i : ℕ) → i < piece_count bytes → checks_from bytes i ≡ piece_checks bytes i ++ checks_from bytes (i + 1)
unfolding checks_from
one_more bytes i lt =
    let k : piece_count bytes - i ≡ suc (piece_count bytes - (i + 1)) = omega arith in
    rw k (append_assoc (piece_checks bytes i) (flat_map (piece_checks bytes) (range_with_len (i + 1) (piece_count bytes - (i + 1)))) (end_check bytes ∷ []))

pub no_more : (bytes : List ℕ) → checks_from bytes (piece_count bytes) ≡ end_check bytes ∷ []
unfolding checks_from
no_more bytes =
    let k : piece_count bytes - piece_count bytes ≡ 0 = omega arith in
    rw k refl

pub one_passes : (bytes : List ℕ) (i : ℕ) → i < piece_count bytes → first_failing (piece_checks bytes i) ≡ None → first_failing (checks_from bytes (i + 1)) ≡ first_failing (checks_from bytes i)
one_passes bytes i lt none = sym (ap first_failing (one_more bytes i lt) ∙ passes_front (piece_checks bytes i) (checks_from bytes (i + 1)) none)

pub one_fails : (bytes : List ℕ) (i : ℕ) (fault : ImageFault) → i < piece_count bytes → first_failing (piece_checks bytes i) ≡ Some fault → first_failing (checks_from bytes i) ≡ Some fault
one_fails bytes i fault lt some = ap first_failing (one_more bytes i lt) ∙ fails_front (piece_checks bytes i) (checks_from bytes (i + 1)) fault some

pub more_pieces : (bytes : List ℕ) (i : ℕ) (pieces : List Piece) → pieces ≡ map (piece_at bytes) (range_with_len 0 i) → pieces ++ piece_at bytes i ∷ [] ≡ map (piece_at bytes) (range_with_len 0 (i + 1))
more_pieces bytes i pieces so_far = ap (λ (x : List Piece). x ++ piece_at bytes i ∷ []) so_far ∙ sym (map-range_with_len_more (piece_at bytes) 0 i i (omega arith))

pub starts : (bytes : List ℕ) (place : ℕ) → place ≡ text_end bytes → place ≤ length bytes → IsSoFar bytes 0 (record { index = 0; place = place; least = 0 }) []
starts bytes place e inside = record {
  at = record { place = e ∙ sym (first_place bytes); inside = inside; least = sym (first_least bytes) };
  index = refl;
  rest = ap first_failing (all_from bytes);
  read = refl;
}

pub goes_on : (bytes : List ℕ) (i : ℕ) (cursor next : Cursor) (pieces : List Piece) (piece : Piece) → IsSoFar bytes i cursor pieces → i < piece_count bytes → IsAt bytes next → next.index ≡ cursor.index + 1
    → first_failing (piece_checks bytes cursor.index) ≡ None → piece ≡ piece_at bytes cursor.index → IsSoFar bytes (i + 1) next (pieces ++ piece ∷ [])
goes_on bytes i cursor next pieces piece so_far lt at index none is =
    let here : cursor.index ≡ i = so_far.index in
    let passes : first_failing (piece_checks bytes i) ≡ None = subst (λ (j : ℕ). first_failing (piece_checks bytes j) ≡ None) here none in
    let same : piece ≡ piece_at bytes i = is ∙ ap (piece_at bytes) here in
    record {
      at = at;
      index = omega arith;
      rest = one_passes bytes i lt passes ∙ so_far.rest;
      read = ap (λ (p : Piece). pieces ++ p ∷ []) same ∙ more_pieces bytes i pieces so_far.read;
    }

pub stops : (bytes : List ℕ) (i : ℕ) (cursor : Cursor) (pieces : List Piece) (fault : ImageFault) → IsSoFar bytes i cursor pieces → i < piece_count bytes
    → first_failing (piece_checks bytes cursor.index) ≡ Some fault → first_failing (pieces_checks bytes) ≡ Some fault
stops bytes i cursor pieces fault so_far lt some =
    sym so_far.rest ∙ one_fails bytes i fault lt (subst (λ (j : ℕ). first_failing (piece_checks bytes j) ≡ Some fault) so_far.index some)

at_end : (bytes : List ℕ) (i : ℕ) (cursor : Cursor) (pieces : List Piece) → IsSoFar bytes i cursor pieces → i ≡ piece_count bytes
    → (first_failing (pieces_checks bytes) ≡ first_failing (end_check bytes ∷ [])) × (cursor.place ≡ piece_place bytes (piece_count bytes))
at_end bytes i cursor pieces so_far e =
    (sym so_far.rest ∙ ap (λ (j : ℕ). first_failing (checks_from bytes j)) e ∙ ap first_failing (no_more bytes), so_far.at.place ∙ ap (piece_place bytes) (so_far.index ∙ e))

pub finds_extra : (bytes : List ℕ) (i : ℕ) (cursor : Cursor) (pieces : List Piece) → IsSoFar bytes i cursor pieces → i ≡ piece_count bytes → cursor.place < length bytes
    → first_failing (pieces_checks bytes) ≡ Some (faults.Extra cursor.place)
finds_extra bytes i cursor pieces so_far e more =
    let end = at_end bytes i cursor pieces so_far e in
    let place = end.1 in
    let left : first_failing (end_check bytes ∷ []) ≡ Some (faults.Extra (piece_place bytes (piece_count bytes))) = grind (arith, nat_tests) in
    end.0 ∙ left ∙ ap (λ (p : ℕ). Some (faults.Extra p)) (sym place)

pub is_done : (bytes : List ℕ) (i : ℕ) (cursor : Cursor) (pieces : List Piece) → IsSoFar bytes i cursor pieces → i ≡ piece_count bytes → length bytes ≤ cursor.place
    → (first_failing (pieces_checks bytes) ≡ None) × (pieces ≡ pieces_in bytes)
unfolding pieces_in
is_done bytes i cursor pieces so_far e none =
    let end = at_end bytes i cursor pieces so_far e in
    let place = end.1 in
    let left : first_failing (end_check bytes ∷ []) ≡ None = grind (arith, nat_tests) in
    (end.0 ∙ left, so_far.read ∙ ap (λ (j : ℕ). map (piece_at bytes) (range_with_len 0 j)) e)
