-- One piece and the cells of memory.
use Rattle.std.proofs.Common.{◌≡◌, ◌≢◌, ◌⊎◌, inl, inr, not, eqb, true, false, ℕ, suc, ◌+◌, ◌-◌, ◌<◌, ◌≤◌, List, [], ◌∷◌, length, take, drop, get_or, set, Option, Some, None, refl, sym, ◌∙◌, ap, subst, add-one, arith, length-take}
use Rattle.std.specs.Prelude.{max}
use Rattle.std.specs.Option.{option_eq, option_or}
use Rattle.std.proofs.lemmas.Bool.{cases_eq}
use Rattle.std.proofs.lemmas.Bool.Decides.{nat_tests}
use Rattle.std.proofs.lemmas.List.{take_all, get_or-set_same, get_or-set_other, get_or-take, get_or_default, length-set}
use Rattle.pmsi_model.specs.declared.image.Piece.{Piece}
use Rattle.pmsi_model.specs.Image.{end_of}
use Rattle.job_text.specs.Joining.{byte_in}
use Rattle.job_text.specs.Joins.{AreBelow, AreNamed, IsLeast, IsOther, IsBeyond, cell_at}
use Rattle.job_text.proofs.PieceBytes.{below_or, empty, inside, first_left, is_inside, one_or, outside}

-- ---- bytes past the memory

pub past_some : (piece : Piece) (memory : ℕ) → 0 < length piece.bytes → memory < end_of piece → IsLeast (λ address. IsBeyond memory address (byte_in (piece ∷ []) address)) (Some (max piece.address memory))
past_some piece memory some past =
    let here = inside piece [] (max piece.address memory) (omega arith) (omega arith) in
    ((λ none. let both : Some _ ≡ None = sym here ∙ none in absurd cc, omega arith), λ address is. let in_piece = is_inside piece address is.0 in omega (arith, in_piece, is.1))

pub past_none : (piece : Piece) (memory : ℕ) → end_of piece ≤ memory → IsLeast (λ address. IsBeyond memory address (byte_in (piece ∷ []) address)) None
past_none piece memory within = λ address is. let in_piece = is_inside piece address is.0 in omega (arith, in_piece, is.1)

-- ---- the first bytes of a piece

abbrev pub front : Piece → ℕ → Piece
front piece i = record { address = piece.address; bytes = take i piece.bytes }

module _ (piece : Piece) (i : ℕ) (low : i ≤ length piece.bytes) (address : ℕ) where
  pub front_none : (address < piece.address) ⊎ (piece.address + i ≤ address) → byte_in (front piece i ∷ []) address ≡ None
  front_none (inl before) = outside (front piece i) [] address (inl before) ∙ empty address
  front_none (inr behind) = outside (front piece i) [] address (inr (omega (arith, length-take i piece.bytes))) ∙ empty address

  pub front_some : piece.address ≤ address → address < piece.address + i → byte_in (front piece i ∷ []) address ≡ Some (get_or piece.bytes (address - piece.address) 0)
  front_some from to =
      inside (front piece i) [] address from (omega (arith, length-take i piece.bytes)) ∙ ap Some (get_or-take i piece.bytes (address - piece.address) 0 (omega arith))

module _ (piece : Piece) (i : ℕ) (low : i < length piece.bytes) (address : ℕ) where
  pub front_same : (address ≡ piece.address + i → ⊥) → byte_in (front piece (i + 1) ∷ []) address ≡ byte_in (front piece i ∷ []) address
  front_same other = front_by (below_or address piece.address) (below_or address (piece.address + i)) where
    front_by : (address < piece.address) ⊎ (piece.address ≤ address) → (address < piece.address + i) ⊎ (piece.address + i ≤ address) → byte_in (front piece (i + 1) ∷ []) address ≡ byte_in (front piece i ∷ []) address
    front_by (inl before) to = front_none piece (i + 1) (omega arith) address (inl before) ∙ sym (front_none piece i (omega arith) address (inl before))
    front_by (inr from) (inl to) = front_some piece (i + 1) (omega arith) address from (omega arith) ∙ sym (front_some piece i (omega arith) address from to)
    front_by (inr from) (inr behind) = front_none piece (i + 1) (omega arith) address (inr (omega arith)) ∙ sym (front_none piece i (omega arith) address (inr behind))

-- ---- cells that are named

or_none : (byte : Option ℕ) → option_or byte None ≡ byte
or_none None = refl
or_none (Some b) = refl

or_three : (a b c : Option ℕ) → option_or (option_or a b) c ≡ option_or a (option_or b c)
or_three None b c = refl
or_three (Some a) b c = refl

-- some of the bytes were named, and the others are left
pub record IsNaming (before cells : List (Option ℕ)) (all left : ℕ → Option ℕ) : Type 0 where
  pub count : length cells ≡ length before
  pub each : (address : ℕ) → address < length before → option_or (cell_at cells address) (left address) ≡ option_or (cell_at before address) (all address)

pub naming_start : (cells : List (Option ℕ)) (all : ℕ → Option ℕ) → IsNaming cells cells all all
naming_start cells all = record { count = refl; each = λ address low. refl }

pub naming_next : (before cells after : List (Option ℕ)) (all left others : ℕ → Option ℕ) (pieces : List Piece) → IsNaming before cells all left → AreNamed cells after pieces
    → ((address : ℕ) → left address ≡ option_or (byte_in pieces address) (others address)) → IsNaming before after all others
naming_next before cells after all left others pieces is named both = record {
  count = named.count ∙ is.count;
  each = λ address low.
      ap (λ cell. option_or cell (others address)) (named.each address (omega (arith, is.count)))
      ∙ or_three (cell_at cells address) (byte_in pieces address) (others address) ∙ ap (option_or (cell_at cells address)) (sym (both address)) ∙ is.each address low;
}

pub naming_end : (before cells : List (Option ℕ)) (pieces : List Piece) (left : ℕ → Option ℕ) → IsNaming before cells (byte_in pieces) left → ((address : ℕ) → left address ≡ None) → AreNamed before cells pieces
naming_end before cells pieces left is none = record {
  count = is.count;
  each = λ address low. sym (or_none (cell_at cells address)) ∙ ap (option_or (cell_at cells address)) (sym (none address)) ∙ is.each address low;
}

pub pieces_next : (pieces : List Piece) (i address : ℕ) (piece : Piece) → i < length pieces → piece ≡ get_or pieces i piece
    → byte_in (drop i pieces) address ≡ option_or (byte_in (piece ∷ []) address) (byte_in (drop (i + 1) pieces) address)
pieces_next pieces i address piece low at = rw add-one (ap (λ left. byte_in left address) (first_left pieces i piece low at) ∙ one_or piece (drop (suc i) pieces) address)

pub below_first : (memory i : ℕ) (pieces : List Piece) (piece : Piece) → i < length pieces → piece ≡ get_or pieces i piece → AreBelow memory (drop i pieces) → (end_of piece ≤ memory) × AreBelow memory (drop (i + 1) pieces)
below_first memory i pieces piece low at below = rw add-one (subst (AreBelow memory) (first_left pieces i piece low at) below)

-- a piece's bytes, one by one
pub named_first : (cells : List (Option ℕ)) (piece : Piece) → AreNamed cells cells (front piece 0 ∷ [])
named_first cells piece = record {
  count = refl;
  each = λ address low. sym (ap (option_or (cell_at cells address)) (nothing address (below_or address piece.address)) ∙ or_none (cell_at cells address));
} where
  nothing : (address : ℕ) → (address < piece.address) ⊎ (piece.address ≤ address) → byte_in (front piece 0 ∷ []) address ≡ None
  nothing address (inl before) = front_none piece 0 (omega arith) address (inl before)
  nothing address (inr from) = front_none piece 0 (omega arith) address (inr (omega arith))

pub named_whole : (before cells : List (Option ℕ)) (piece : Piece) (i : ℕ) → length piece.bytes ≤ i → AreNamed before cells (front piece i ∷ []) → AreNamed before cells (piece ∷ [])
named_whole before cells piece i high named = record {
  count = named.count;
  each = λ address low. named.each address low ∙ ap (λ bytes. option_or (cell_at before address) (byte_in (record { address = piece.address; bytes = bytes } ∷ []) address)) (take_all i piece.bytes high);
}

module _ (before cells : List (Option ℕ)) (piece : Piece) (i address : ℕ) (was now : Option ℕ) (byte : ℕ) (low : i < length piece.bytes) (at : address ≡ piece.address + i) (is : byte ≡ get_or piece.bytes i 0)
    (fits : end_of piece ≤ length before) (named : AreNamed before cells (front piece i ∷ [])) (cell : was ≡ get_or cells address was) (changed : now ≡ option_or was (Some byte)) where
  each_by : (place : ℕ) → place < length before → (place ≡ address) ⊎ (place ≢ address) → cell_at (set cells address now) place ≡ option_or (cell_at before place) (byte_in (front piece (i + 1) ∷ []) place)
  each_by place inside (inl here) =
      let within : address < length cells = omega (arith, named.count) in
      let old : cell_at cells address ≡ cell_at before address =
      named.each address (omega arith) ∙ ap (option_or (cell_at before address)) (front_none piece i (omega arith) address (inr (omega arith))) ∙ or_none (cell_at before address) in
      let new : byte_in (front piece (i + 1) ∷ []) address ≡ Some byte =
      front_some piece (i + 1) (omega arith) address (omega arith) (omega arith) ∙ ap (λ k. Some (get_or piece.bytes k 0)) (omega arith) ∙ ap Some (sym is) in
      let same : was ≡ cell_at cells address = cell ∙ get_or_default cells address was None within in
      rw here (get_or-set_same cells address now None within ∙ changed ∙ ap (λ c. option_or c (Some byte)) (same ∙ old) ∙ ap (option_or (cell_at before address)) (sym new))
  each_by place inside (inr other) =
      get_or-set_other cells address place now None other ∙ named.each place inside ∙ ap (option_or (cell_at before place)) (sym (front_same piece i low place (λ e. other (e ∙ sym at))))

  pub named_next : AreNamed before (set cells address now) (front piece (i + 1) ∷ [])
  named_next = record { count = length-set cells address now ∙ named.count; each = λ place inside. each_by place inside (cases_eq place address) }

-- ---- cells with other bytes

pub same_cell : (a b : Option ℕ) → not (option_eq eqb a b) ≡ false → a ≡ b
same_cell None None e = refl
same_cell None (Some y) e = absurd cc
same_cell (Some x) None e = absurd cc
same_cell (Some x) (Some y) e = grind (arith, nat_tests)

pub other_cell : (a b : Option ℕ) → not (option_eq eqb a b) ≡ true → a ≢ b
other_cell None None e = absurd cc
other_cell None (Some y) e = λ same. cc
other_cell (Some x) None e = λ same. cc
other_cell (Some x) (Some y) e = λ same. grind (arith, nat_tests)

-- no byte below an address is another than its cell's
abbrev pub AgreeTo : Piece → List (Option ℕ) → ℕ → Type 0
AgreeTo piece cells end = (address : ℕ) → address < end → IsOther (byte_in (piece ∷ []) address) (cell_at cells address) → ⊥

module _ (piece : Piece) (cells : List (Option ℕ)) (i address : ℕ) (was : Option ℕ) (byte : ℕ) (low : i < length piece.bytes) (at : address ≡ piece.address + i) (is : byte ≡ get_or piece.bytes i 0)
    (cell : was ≡ cell_at cells address) (agree : AgreeTo piece cells address) where
  named_here : byte_in (piece ∷ []) address ≡ Some byte
  named_here = inside piece [] address (omega arith) (omega arith) ∙ ap (λ k. Some (get_or piece.bytes k 0)) (omega arith) ∙ ap Some (sym is)

  agree_by : was ≡ Some byte → (place : ℕ) → place < address + 1 → (place ≡ address) ⊎ (place ≢ address) → IsOther (byte_in (piece ∷ []) place) (cell_at cells place) → ⊥
  agree_by same place below (inl here) other = other.1 (rw here (named_here ∙ sym same ∙ cell))
  agree_by same place below (inr not) other = agree place (omega arith) other

  pub agree_next : was ≡ Some byte → AgreeTo piece cells (address + 1)
  agree_next same = λ place below. agree_by same place below (cases_eq place address)

  pub other_here : was ≢ Some byte → IsLeast (λ address. IsOther (byte_in (piece ∷ []) address) (cell_at cells address)) (Some address)
  other_here apart = (
    (λ none. let both : Some byte ≡ None = sym named_here ∙ none in absurd cc, λ same. apart (cell ∙ sym same ∙ named_here)),
    λ place other. not_below place other (below_or place address),
  ) where
    not_below : (place : ℕ) → IsOther (byte_in (piece ∷ []) place) (cell_at cells place) → (place < address) ⊎ (address ≤ place) → address ≤ place
    not_below place other (inl below) = absurd (agree place below other)
    not_below place other (inr from) = from

pub agree_end : (piece : Piece) (cells : List (Option ℕ)) (end : ℕ) → end_of piece ≤ end → AgreeTo piece cells end → IsLeast (λ address. IsOther (byte_in (piece ∷ []) address) (cell_at cells address)) None
agree_end piece cells end high agree = λ address other. agree address (let inside = is_inside piece address other.0 in omega (arith, inside)) other

pub agree_first : (piece : Piece) (cells : List (Option ℕ)) → AgreeTo piece cells piece.address
agree_first piece cells = λ address low other. let inside = is_inside piece address other.0 in omega (arith, inside)
