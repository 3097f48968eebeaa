-- Pieces that stand in rising order, have bytes and leave a gap before the next are known by the byte at each address.
use Rattle.std.proofs.Common.{◌≡◌, ℕ, ◌+◌, ◌-◌, ◌<◌, ◌≤◌, List, [], ◌∷◌, length, map, get_or, Option, Some, None, inl, inr, refl, sym, ◌∙◌, arith}
use Rattle.std.proofs.lemmas.Option.{slice_get_past, slice_get-get_or}
use Rattle.std.proofs.lemmas.Grind.{same_number_lists}
use Rattle.std.proofs.lemmas.Bool.{cases_lt}
use Rattle.pmsi_model.specs.declared.image.Piece.{Piece}
use Rattle.pmsi_model.specs.Image.{ArePieces, end_of}
use Rattle.asm_parse.specs.Assembly.{byte_at, byte_in, first_of}

abbrev byte_of : List Piece → ℕ → Option ℕ
byte_of pieces address = byte_at (map (λ piece. (piece.address, piece.bytes)) pieces) address

none : (address : ℕ) → byte_of [] address ≡ None
unfolding byte_at first_of
none address = refl

within : (piece : Piece) (pieces : List Piece) (k : ℕ) → k < length piece.bytes → byte_of (piece ∷ pieces) (piece.address + k) ≡ Some (get_or piece.bytes k 0)
unfolding byte_at first_of
within piece pieces k inside =
    let here : byte_in (piece.address + k) (piece.address, piece.bytes) ≡ Some (get_or piece.bytes k 0) = grind (arith, slice_get-get_or piece.bytes k 0 inside) in
    rw here refl

before : (piece : Piece) (pieces : List Piece) (address : ℕ) → address < piece.address → byte_of (piece ∷ pieces) address ≡ byte_of pieces address
unfolding byte_at first_of
before piece pieces address low =
    let here : byte_in address (piece.address, piece.bytes) ≡ None = grind arith in
    rw here refl

behind : (piece : Piece) (pieces : List Piece) (address : ℕ) → end_of piece ≤ address → byte_of (piece ∷ pieces) address ≡ byte_of pieces address
unfolding byte_at first_of
behind piece pieces address high =
    let here : byte_in address (piece.address, piece.bytes) ≡ None = grind (arith, slice_get_past piece.bytes (address - piece.address)) in
    rw here refl

-- no byte stands below the least address
below : (least : ℕ) (pieces : List Piece) (address : ℕ) → ArePieces least pieces → address < least → byte_of pieces address ≡ None
below least [] address are low = none address
below least (piece ∷ pieces) address are low =
    before piece pieces address (omega arith) ∙ below (end_of piece + 1) pieces address are.3 (omega arith)

-- a piece isn't in front of others that have a byte at its address
not_before : (piece : Piece) (pieces : List Piece) (least : ℕ) (others : List Piece) → 0 < length piece.bytes → ArePieces least others
    → byte_of (piece ∷ pieces) (piece.address + 0) ≡ byte_of others (piece.address + 0) → least ≤ piece.address
not_before piece pieces least others some are same = elim (cases_lt piece.address least) [
  | inl low ↦
      let has = within piece pieces 0 some in
      let lacks = below least others (piece.address + 0) are (omega arith) in
      absurd (cc)
  | inr high ↦ high
]

-- nor does it go on behind another that begins where it does
not_longer : (piece : Piece) (pieces : List Piece) (other : Piece) (others : List Piece) → piece.address ≡ other.address → ArePieces (end_of other + 1) others
    → byte_of (piece ∷ pieces) (end_of other) ≡ byte_of (other ∷ others) (end_of other) → length piece.bytes ≤ length other.bytes
not_longer piece pieces other others start are same = elim (cases_lt (length other.bytes) (length piece.bytes)) [
  | inl longer ↦
      let has = within piece pieces (length other.bytes) longer in
      let lacks = behind other others (end_of other) (omega arith) ∙ below (end_of other + 1) others (end_of other) are (omega arith) in
      absurd (cc)
  | inr high ↦ high
]

same_bytes : (piece : Piece) (pieces : List Piece) (other : Piece) (others : List Piece) → piece.address ≡ other.address → length piece.bytes ≡ length other.bytes
    → ((address : ℕ) → byte_of (piece ∷ pieces) address ≡ byte_of (other ∷ others) address) → piece.bytes ≡ other.bytes
same_bytes piece pieces other others start long same = same_number_lists piece.bytes other.bytes long (λ k inside.
    let byte = within piece pieces k inside in
    let its = within other others k (omega arith) in
    let both = same (piece.address + k) in
    cc)

-- behind a first piece of both, the other bytes are the same
same_rest : (piece : Piece) (pieces : List Piece) (other : Piece) (others : List Piece) → end_of piece ≡ end_of other → ArePieces (end_of piece + 1) pieces → ArePieces (end_of other + 1) others
    → ((address : ℕ) → byte_of (piece ∷ pieces) address ≡ byte_of (other ∷ others) address) → (address : ℕ) → byte_of pieces address ≡ byte_of others address
same_rest piece pieces other others ends are others_are same address = elim (cases_lt address (end_of piece + 1)) [
  | inl low ↦ below (end_of piece + 1) pieces address are low ∙ sym (below (end_of other + 1) others address others_are (omega arith))
  | inr high ↦ sym (behind piece pieces address (omega arith)) ∙ same address ∙ behind other others address (omega arith)
]

-- pieces with the same parts are one
from_parts : (a b : ℕ) (bytes others : List ℕ) → a ≡ b → bytes ≡ others → ◌≡◌ {A = Piece} (record { address = a; bytes = bytes }) (record { address = b; bytes = others })
from_parts a b bytes others start same = cc

pub same_pieces : (least other_least : ℕ) (pieces others : List Piece) → ArePieces least pieces → ArePieces other_least others
    → ((address : ℕ) → byte_of pieces address ≡ byte_of others address) → pieces ≡ others
same_pieces least other_least [] [] are others_are same = refl
same_pieces least other_least [] (other ∷ others) are others_are same =
    let has = within other others 0 others_are.1 in
    let lacks = sym (same (other.address + 0)) ∙ none (other.address + 0) in
    absurd (cc)
same_pieces least other_least (piece ∷ pieces) [] are others_are same =
    let has = within piece pieces 0 are.1 in
    let lacks = same (piece.address + 0) ∙ none (piece.address + 0) in
    absurd (cc)
same_pieces least other_least (piece ∷ pieces) (other ∷ others) are others_are same =
    let low : other.address ≤ piece.address = not_before piece pieces other.address (other ∷ others) are.1 (omega arith, others_are.1, others_are.2, others_are.3) (same (piece.address + 0)) in
    let high : piece.address ≤ other.address = not_before other others piece.address (piece ∷ pieces) others_are.1 (omega arith, are.1, are.2, are.3) (sym (same (other.address + 0))) in
    let start : piece.address ≡ other.address = omega arith in
    let short : length piece.bytes ≤ length other.bytes = not_longer piece pieces other others start others_are.3 (same (end_of other)) in
    let long : length other.bytes ≤ length piece.bytes = not_longer other others piece pieces (sym start) are.3 (sym (same (end_of piece))) in
    let bytes : piece.bytes ≡ other.bytes = same_bytes piece pieces other others start (omega arith) same in
    let first : piece ≡ other = from_parts piece.address other.address piece.bytes other.bytes start bytes in
    let rest : pieces ≡ others = same_pieces (end_of piece + 1) (end_of other + 1) pieces others are.3 others_are.3 (same_rest piece pieces other others (omega arith) are.3 others_are.3 same) in
    cc
