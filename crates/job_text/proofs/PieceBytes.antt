-- The bytes that pieces name, piece by piece.
use Rattle.std.proofs.Common.{◌≡◌, ◌≢◌, ◌⊎◌, inl, inr, ℕ, suc, ◌+◌, ◌-◌, ◌<◌, ◌≤◌, Bool, true, false, cond, List, [], ◌∷◌, length, drop, get_or, Bor, Option, Some, None, option_map, refl, sym, ◌∙◌, ap, subst, add-one, arith}
use Rattle.std.specs.Prelude.{◌&&◌, nat_le, nat_lt, is_some, slice_index}
use Rattle.std.specs.Option.{option_or, option_copied, unwrap_or}
use Rattle.std.proofs.Math.Seq.{drop-cons}
use Rattle.std.proofs.lemmas.Bool.Decides.{nat_tests}
use Rattle.std.proofs.lemmas.List.{drop_all}
use Rattle.pmsi_model.specs.declared.image.Piece.{Piece}
use Rattle.pmsi_model.specs.Image.{ArePieces, end_of}
use Rattle.job_text.specs.Joining.{byte_in}
use Rattle.job_text.specs.Joins.{IsLeast, IsOther, IsBeyond, cell_at}

-- ---- one piece in front

pub empty : (address : ℕ) → byte_in [] address ≡ None
unfolding byte_in
empty address = refl

below_by : (a b : ℕ) (test : Bool) → nat_lt a b ≡ test → (a < b) ⊎ (b ≤ a)
below_by a b true e = inl (grind (arith, nat_tests))
below_by a b false e = inr (grind (arith, nat_tests))

pub below_or : (a b : ℕ) → (a < b) ⊎ (b ≤ a)
below_or a b = below_by a b (nat_lt a b) refl

or_by : (test : Bool) (byte : ℕ) (others : Option ℕ) → cond test (Some byte) others ≡ option_or (cond test (Some byte) None) others
or_by true byte others = refl
or_by false byte others = refl

module _ (piece : Piece) (pieces : List Piece) (address : ℕ) where
  pub one_or : byte_in (piece ∷ pieces) address ≡ option_or (byte_in (piece ∷ []) address) (byte_in pieces address)
  unfolding byte_in
  one_or = or_by (nat_le piece.address address && nat_lt address (end_of piece)) (slice_index piece.bytes (address - piece.address)) (byte_in pieces address)

  pub inside : piece.address ≤ address → address < end_of piece → byte_in (piece ∷ pieces) address ≡ Some (slice_index piece.bytes (address - piece.address))
  unfolding byte_in
  inside from to = grind (arith, nat_tests)

  pub outside : (address < piece.address) ⊎ (end_of piece ≤ address) → byte_in (piece ∷ pieces) address ≡ byte_in pieces address
  unfolding byte_in
  outside (inl low) = grind (arith, nat_tests)
  outside (inr high) = grind (arith, nat_tests)

outside_test : (piece : Piece) (address : ℕ) (test : Bool) (byte : ℕ) → (nat_le piece.address address && nat_lt address (end_of piece)) ≡ test → cond test (Some byte) None ≢ None
    → (piece.address ≤ address) × (address < end_of piece)
outside_test piece address true byte e some = (grind (arith, nat_tests), grind (arith, nat_tests))
outside_test piece address false byte e some = absurd (some refl)

pub is_inside : (piece : Piece) (address : ℕ) → byte_in (piece ∷ []) address ≢ None → (piece.address ≤ address) × (address < end_of piece)
unfolding byte_in
is_inside piece address some = outside_test piece address (nat_le piece.address address && nat_lt address (end_of piece)) (slice_index piece.bytes (address - piece.address)) refl some

-- a byte found by its place in its piece
pub got : (piece : Piece) (address : ℕ) (found : Option (Bor ℕ)) → piece.address ≤ address → is_some found ≡ nat_lt (address - piece.address) (length piece.bytes)
    → unwrap_or (option_map (λ x. x.now) found) 0 ≡ get_or piece.bytes (address - piece.address) 0 → option_copied found ≡ byte_in (piece ∷ []) address
got piece address None from some value =
    let high : end_of piece ≤ address = grind (arith, nat_tests) in
    sym (outside piece [] address (inr high) ∙ empty address)
got piece address (Some x) from some value =
    let low : address < end_of piece = grind (arith, nat_tests) in
    ap Some value ∙ sym (inside piece [] address from low)

-- ---- pieces in rising order

from_here : (least : ℕ) (piece : Piece) (pieces : List Piece) (address : ℕ) → ArePieces least (piece ∷ pieces) → byte_in (piece ∷ pieces) address ≢ None
    → (byte_in pieces address ≢ None → end_of piece + 1 ≤ address) → (address < piece.address) ⊎ (piece.address ≤ address) → least ≤ address
from_here least piece pieces address are some others (inl low) =
    let later = others (λ none. some (outside piece pieces address (inl low) ∙ none)) in
    omega (arith, later, are.0)
from_here least piece pieces address are some others (inr from) = omega (arith, are.0)

pub from_least : (least : ℕ) (pieces : List Piece) (address : ℕ) → ArePieces least pieces → byte_in pieces address ≢ None → least ≤ address
from_least least [] address are some = absurd (some (empty address))
from_least least (piece ∷ pieces) address are some =
    from_here least piece pieces address are some (from_least (end_of piece + 1) pieces address are.3) (below_or address piece.address)

-- a byte of a later piece isn't one of the first
pub later : (least : ℕ) (piece : Piece) (pieces : List Piece) (address : ℕ) → ArePieces least (piece ∷ pieces) → byte_in pieces address ≢ None → byte_in (piece ∷ pieces) address ≡ byte_in pieces address
later least piece pieces address are some =
    let above = from_least (end_of piece + 1) pieces address are.3 some in
    outside piece pieces address (inr (omega (arith, above)))

first_by : (alone others : Option ℕ) → (others ≢ None → ⊥) → option_or alone others ≡ alone
first_by None None not = refl
first_by None (Some byte) not = absurd (not (λ e. cc))
first_by (Some byte) others not = refl

-- up to the end of the first piece
pub within_first : (least : ℕ) (piece : Piece) (pieces : List Piece) (address : ℕ) → ArePieces least (piece ∷ pieces) → address < end_of piece → byte_in (piece ∷ pieces) address ≡ byte_in (piece ∷ []) address
within_first least piece pieces address are low =
    one_or piece pieces address
    ∙ first_by (byte_in (piece ∷ []) address) (byte_in pieces address) (λ some. let above = from_least (end_of piece + 1) pieces address are.3 some in omega (arith, above))

pub first_left : {X : Type 0} (xs : List X) (i : ℕ) (x : X) → i < length xs → x ≡ get_or xs i x → drop i xs ≡ x ∷ drop (suc i) xs
first_left xs i x low at = drop-cons xs i x low ∙ ap (λ y. y ∷ drop (suc i) xs) (sym at)

pub first_are : (pieces : List Piece) (i least : ℕ) (piece : Piece) → i < length pieces → piece ≡ get_or pieces i piece → ArePieces least (drop i pieces) → ArePieces least (piece ∷ drop (suc i) pieces)
first_are pieces i least piece low at are = subst (ArePieces least) (first_left pieces i piece low at) are

-- the byte at an address, by the pieces from one on
module _ (pieces : List Piece) (i address : ℕ) where
  pub byte_next : (piece : Piece) → i < length pieces → piece ≡ get_or pieces i piece → byte_in (piece ∷ []) address ≡ None → byte_in (drop i pieces) address ≡ byte_in (drop (i + 1) pieces) address
  byte_next piece low at none = rw add-one (ap (λ left. byte_in left address) (first_left pieces i piece low at) ∙ one_or piece (drop (suc i) pieces) address ∙ ap (λ b. option_or b (byte_in (drop (suc i) pieces) address)) none)

  pub byte_here : (piece : Piece) (byte : ℕ) → i < length pieces → piece ≡ get_or pieces i piece → byte_in (piece ∷ []) address ≡ Some byte → byte_in (drop i pieces) address ≡ Some byte
  byte_here piece byte low at some = ap (λ left. byte_in left address) (first_left pieces i piece low at) ∙ one_or piece (drop (suc i) pieces) address ∙ ap (λ b. option_or b (byte_in (drop (suc i) pieces) address)) some

  pub byte_end : length pieces ≤ i → byte_in (drop i pieces) address ≡ None
  byte_end high = ap (λ left. byte_in left address) (drop_all i pieces high) ∙ empty address

-- ---- the least byte of a kind

module _ (Fits : ℕ → Option ℕ → Type 0) (never : (address : ℕ) → Fits address None → ⊥) where
  -- the pieces that are left have all bytes of the kind
  pub record AreLeft (pieces left : List Piece) : Type 0 where
    pub least : ℕ
    pub are : ArePieces least left
    pub to : (address : ℕ) → Fits address (byte_in pieces address) → Fits address (byte_in left address)
    pub back : (address : ℕ) → byte_in left address ≢ None → byte_in pieces address ≡ byte_in left address

  pub left_start : (pieces : List Piece) → ArePieces 0 pieces → AreLeft pieces pieces
  left_start pieces are = record { least = 0; are = are; to = λ address fits. fits; back = λ address some. refl }

  not_first : (piece : Piece) (left : List Piece) (address : ℕ) (alone others : Option ℕ) → Fits address (option_or alone others) → (Fits address alone → ⊥) → Fits address others
  not_first piece left address None others fits not = fits
  not_first piece left address (Some byte) others fits not = absurd (not fits)

  module _ (pieces left : List Piece) (piece : Piece) (is : AreLeft pieces (piece ∷ left)) where
    pub left_next : IsLeast (λ address. Fits address (byte_in (piece ∷ []) address)) None → AreLeft pieces left
    left_next none = record {
      least = end_of piece + 1;
      are = is.are.3;
      to = λ address fits. not_first piece left address (byte_in (piece ∷ []) address) (byte_in left address) (subst (Fits address) (one_or piece left address) (is.to address fits)) (none address);
      back = λ address some. let same = later is.least piece left address is.are some in is.back address (λ e. some (sym same ∙ e)) ∙ same;
    }

    least_of : (found address : ℕ) → Fits found (byte_in (piece ∷ []) found) → ((n : ℕ) → Fits n (byte_in (piece ∷ []) n) → found ≤ n) → Fits address (byte_in (piece ∷ left) address)
        → (address < end_of piece) ⊎ (end_of piece ≤ address) → found ≤ address
    least_of found address here first fits (inr high) =
        let inside = is_inside piece found (λ e. never found (subst (Fits found) e here)) in
        omega (arith, inside.1)
    least_of found address here first fits (inl low) =
        first address (subst (Fits address) (within_first is.least piece left address is.are low) fits)

    pub left_found : (found : ℕ) → IsLeast (λ address. Fits address (byte_in (piece ∷ []) address)) (Some found) → IsLeast (λ address. Fits address (byte_in pieces address)) (Some found)
    left_found found one =
        let some : byte_in (piece ∷ []) found ≢ None = λ e. never found (subst (Fits found) e one.0) in
        let inside = is_inside piece found some in
        let front : byte_in (piece ∷ left) found ≡ byte_in (piece ∷ []) found = within_first is.least piece left found is.are inside.1 in
        let whole : byte_in pieces found ≡ byte_in (piece ∷ left) found = is.back found (λ e. some (sym front ∙ e)) in
        (subst (Fits found) (sym (whole ∙ front)) one.0, λ address fits. least_of found address one.0 one.1 (is.to address fits) (below_or address (end_of piece)))

  module _ (pieces : List Piece) (i : ℕ) where
    pub next : (piece : Piece) → i < length pieces → piece ≡ get_or pieces i piece → AreLeft pieces (drop i pieces) → IsLeast (λ address. Fits address (byte_in (piece ∷ []) address)) None
        → AreLeft pieces (drop (i + 1) pieces)
    next piece low at is none = rw add-one (left_next pieces (drop (suc i) pieces) piece (subst (AreLeft pieces) (first_left pieces i piece low at) is) none)

    pub here : (piece : Piece) (found : ℕ) → i < length pieces → piece ≡ get_or pieces i piece → AreLeft pieces (drop i pieces) → IsLeast (λ address. Fits address (byte_in (piece ∷ []) address)) (Some found)
        → IsLeast (λ address. Fits address (byte_in pieces address)) (Some found)
    here piece found low at is one = left_found pieces (drop (suc i) pieces) piece (subst (AreLeft pieces) (first_left pieces i piece low at) is) found one

    pub end : length pieces ≤ i → AreLeft pieces (drop i pieces) → IsLeast (λ address. Fits address (byte_in pieces address)) None
    end high is = λ address fits. never address (subst (Fits address) (byte_end pieces i address high) (is.to address fits))

-- no byte is of no kind
pub not_past : (memory address : ℕ) → IsBeyond memory address None → ⊥
not_past memory address past = past.0 refl

pub not_other : (cells : List (Option ℕ)) (address : ℕ) → IsOther None (cell_at cells address) → ⊥
not_other cells address other = other.0 refl
