-- The runs of bytes that the lines of pieces name are those of the pieces, cut into lines.
use Rattle.std.proofs.Common.{◌≡◌, Option, ℕ, zero, suc, ◌+◌, ◌-◌, ◌/◌, ◌<◌, ◌≤◌, List, [], ◌∷◌, ◌++◌, map, length, take, drop, Some, None, inl, inr, refl, ap, sym, ◌∙◌, arith, length-drop}
use Rattle.std.specs.Prelude.{slice_get}
use Rattle.std.proofs.lemmas.List.{take-append-drop, map-append}
use Rattle.std.proofs.lemmas.Bool.{cases_lt, le-leb, lt-leb}
use Rattle.std.proofs.lemmas.Option.{slice_get_past}
use borrow.Author.Tests.{tests}
use Rattle.pmsi_model.specs.declared.image.Piece.{Piece}
use Rattle.pmsi_model.specs.Image.{end_of}
use Rattle.asm_parse.specs.Assembly.{first_of, byte_in, byte_at}

-- `count` runs of sixteen bytes, the last of them of what is left
abbrev pub byte_runs : ℕ → ℕ → List ℕ → List (ℕ × List ℕ)
byte_runs zero address bytes = []
byte_runs (suc count) address bytes = (address, take 16 bytes) ∷ byte_runs count (address + length (take 16 bytes)) (drop 16 bytes)

abbrev pub line_count : List ℕ → ℕ
line_count bytes = (length bytes + 15) / 16

-- a piece's address is chosen where memory has come to, and names no byte there
abbrev pub piece_runs : ℕ → List Piece → List (ℕ × List ℕ)
piece_runs memory [] = []
piece_runs memory (piece ∷ pieces) = (memory, []) ∷ byte_runs (line_count piece.bytes) piece.address piece.bytes ++ piece_runs (end_of piece) pieces

either : Option ℕ → Option ℕ → Option ℕ
either None other = other
either (Some b) other = Some b

first_cons : (found : Option ℕ) (others : List (Option ℕ)) → first_of (found ∷ others) ≡ either found (first_of others)
unfolding first_of either
first_cons None others = refl
first_cons (Some b) others = refl

nothing_first : (other : Option ℕ) → either None other ≡ other
unfolding either
nothing_first other = refl

first_both : (xs ys : List (Option ℕ)) → first_of (xs ++ ys) ≡ either (first_of xs) (first_of ys)
unfolding first_of either
first_both [] ys = refl
first_both (None ∷ xs) ys = first_both xs ys
first_both (Some b ∷ xs) ys = refl

-- ---- a run in two

get_first : (xs ys : List ℕ) (i : ℕ) (other : Option ℕ) → i < length xs → either (slice_get xs i) other ≡ slice_get (xs ++ ys) i
unfolding either
get_first [] ys i other low = absurd (omega arith)
get_first (x ∷ xs) ys zero other low = refl
get_first (x ∷ xs) ys (suc i) other low = get_first xs ys i other (omega arith)

get_second : (xs ys : List ℕ) (i : ℕ) → length xs ≤ i → slice_get ys (i - length xs) ≡ slice_get (xs ++ ys) i
get_second [] ys i high = let same : i - 0 ≡ i = omega arith in rw same refl
get_second (x ∷ xs) ys zero high = absurd (omega arith)
get_second (x ∷ xs) ys (suc i) high = let same : suc i - length (x ∷ xs) ≡ i - length xs = omega arith in rw same (get_second xs ys i (omega arith))

in_two : (address memory : ℕ) (xs ys : List ℕ) → either (byte_in address (memory, xs)) (byte_in address (memory + length xs, ys)) ≡ byte_in address (memory, xs ++ ys)
unfolding either
in_two address memory xs ys = elim (cases_lt address memory) [
  | inl below ↦ rw (lt-leb memory address below) (rw (lt-leb (memory + length xs) address (omega arith)) refl)
  | inr from ↦ elim (cases_lt (address - memory) (length xs)) [
    | inl here ↦ rw (le-leb memory address from) (get_first xs ys (address - memory) (byte_in address (memory + length xs, ys)) here)
    | inr there ↦
        let same : address - (memory + length xs) ≡ address - memory - length xs = omega arith in
        let past : slice_get xs (address - memory) ≡ None = slice_get_past xs (address - memory) there in
        rw (le-leb memory address from) (rw (le-leb (memory + length xs) address (omega arith)) (rw past (rw same (get_second xs ys (address - memory) there))))
  ]
]

nothing_in : (address memory : ℕ) → byte_in address (memory, []) ≡ None
nothing_in address memory = grind (arith, tests)

-- ---- the bytes of a piece, and of all

first_empty : first_of {A = ℕ} [] ≡ None
unfolding first_of
first_empty = refl

in_lines : (address count memory : ℕ) (bytes : List ℕ) → count ≡ line_count bytes → first_of (map (byte_in address) (byte_runs count memory bytes)) ≡ byte_in address (memory, bytes)
in_lines address zero memory [] e = first_empty ∙ sym (nothing_in address memory)
in_lines address zero memory (b ∷ bytes) e = absurd (omega arith)
in_lines address (suc count) memory bytes e =
    let fewer : count ≡ line_count (drop 16 bytes) = omega (arith, length-drop 16 bytes) in
    first_cons (byte_in address (memory, take 16 bytes)) (map (byte_in address) (byte_runs count (memory + length (take 16 bytes)) (drop 16 bytes)))
    ∙ ap (either (byte_in address (memory, take 16 bytes))) (in_lines address count (memory + length (take 16 bytes)) (drop 16 bytes) fewer)
    ∙ in_two address memory (take 16 bytes) (drop 16 bytes)
    ∙ ap (λ xs. byte_in address (memory, xs)) (take-append-drop 16 bytes)

in_piece : (address memory : ℕ) (piece : Piece) (others : List (ℕ × List ℕ)) →
    first_of (map (byte_in address) ((memory, []) ∷ byte_runs (line_count piece.bytes) piece.address piece.bytes ++ others))
    ≡ either (byte_in address (piece.address, piece.bytes)) (first_of (map (byte_in address) others))
in_piece address memory piece others =
    let runs : List (ℕ × List ℕ) = byte_runs (line_count piece.bytes) piece.address piece.bytes in
    first_cons (byte_in address (memory, [])) (map (byte_in address) (runs ++ others))
    ∙ ap (λ o. either o (first_of (map (byte_in address) (runs ++ others)))) (nothing_in address memory)
    ∙ nothing_first (first_of (map (byte_in address) (runs ++ others)))
    ∙ ap first_of (map-append (byte_in address) runs others)
    ∙ first_both (map (byte_in address) runs) (map (byte_in address) others)
    ∙ ap (λ o. either o (first_of (map (byte_in address) others))) (in_lines address (line_count piece.bytes) piece.address piece.bytes refl)

same_bytes : (address memory : ℕ) (pieces : List Piece) → first_of (map (byte_in address) (map (λ piece. (piece.address, piece.bytes)) pieces)) ≡ first_of (map (byte_in address) (piece_runs memory pieces))
same_bytes address memory [] = refl
same_bytes address memory (piece ∷ pieces) =
    first_cons (byte_in address (piece.address, piece.bytes)) (map (byte_in address) (map (λ p. (p.address, p.bytes)) pieces))
    ∙ ap (either (byte_in address (piece.address, piece.bytes))) (same_bytes address (end_of piece) pieces)
    ∙ sym (in_piece address memory piece (piece_runs (end_of piece) pieces))

pub runs_have : (address memory : ℕ) (pieces : List Piece) → byte_at (map (λ piece. (piece.address, piece.bytes)) pieces) address ≡ byte_at (piece_runs memory pieces) address
unfolding byte_at
runs_have address memory pieces = same_bytes address memory pieces
