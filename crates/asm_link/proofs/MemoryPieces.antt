-- The pieces of a memory, one run of bytes after the other.
use Rattle.std.proofs.Common.{◌≡◌, ℕ, zero, suc, ◌+◌, ◌-◌, ◌<◌, ◌≤◌, Bool, true, false, List, [], ◌∷◌, ◌++◌, map, length, get_or, Option, Some, None, inl, inr, refl, ap, sym, ◌∙◌, arith}
use Rattle.std.specs.Prelude.{if◌then◌else◌, nat_le, nat_lt, ◌&&◌, is_some}
use Rattle.std.specs.List.{All, find, range_with_len}
use Rattle.std.specs.Option.{IsSome, option_or}
use Rattle.std.proofs.lemmas.Bool.Decides.{nat_tests}
use Rattle.std.proofs.lemmas.Bool.{cases_lt}
use Rattle.std.proofs.lemmas.List.{map-append}
use Rattle.std.proofs.lemmas.List.Elements.{All-nil, All-cons, All-append}
use Rattle.std.proofs.lemmas.Option.{slice_get_past, slice_get-get_or}
use Rattle.pmsi_model.specs.declared.image.Piece.{Piece}
use Rattle.pmsi_model.specs.declared.limits.TheConstants.{MAX_MEMORY}
use Rattle.pmsi_model.specs.Image.{ArePieces, end_of}
use Rattle.asm_parse.specs.Assembly.{first_of, byte_in, byte_at}
use Rattle.asm_link.specs.Bytes.{byte_of}
use Rattle.asm_link.proofs.FirstOf.{first_append}
use Rattle.asm_link.proofs.NamedBytes.{byte_past}

-- ---- pieces, and one more

-- the least address that a piece behind some others may have
abbrev least_after : ℕ → List Piece → ℕ
least_after least [] = least
least_after least (piece ∷ pieces) = least_after (end_of piece + 1) pieces

least_behind : (least : ℕ) (pieces : List Piece) (piece : Piece) → least_after least (pieces ++ piece ∷ []) ≡ end_of piece + 1
least_behind least [] piece = refl
least_behind least (p ∷ pieces) piece = least_behind (end_of p + 1) pieces piece

one_more : (least : ℕ) (pieces : List Piece) (piece : Piece) → ArePieces least pieces → least_after least pieces ≤ piece.address → 0 < length piece.bytes → end_of piece ≤ MAX_MEMORY
    → ArePieces least (pieces ++ piece ∷ [])
one_more least [] piece are behind some within = (behind, some, within, tt)
one_more least (p ∷ pieces) piece are behind some within = (are.0, are.1, are.2, one_more (end_of p + 1) pieces piece are.3 behind some within)

abbrev pub HasBytes : Piece → Type 0
HasBytes piece = All (λ byte. byte < 256) piece.bytes

-- a piece's address and its bytes
abbrev pub run_of : Piece → ℕ × List ℕ
run_of piece = (piece.address, piece.bytes)

first_alone : (found : Option ℕ) → first_of (found ∷ []) ≡ found
unfolding first_of
first_alone None = refl
first_alone (Some byte) = refl

byte_more : (pieces : List Piece) (piece : Piece) (address : ℕ) → byte_at (map run_of (pieces ++ piece ∷ [])) address ≡ option_or (byte_at (map run_of pieces) address) (byte_in address (run_of piece))
unfolding byte_at
byte_more pieces piece address =
    ap (λ runs. first_of (map (byte_in address) runs)) (map-append run_of pieces (piece ∷ []))
    ∙ ap first_of (map-append (byte_in address) (map run_of pieces) (run_of piece ∷ []))
    ∙ first_append (map (byte_in address) (map run_of pieces)) (byte_in address (run_of piece) ∷ [])
    ∙ ap (option_or (first_of (map (byte_in address) (map run_of pieces)))) (first_alone (byte_in address (run_of piece)))

-- ---- the first address that has a byte

none_found : (p : ℕ → Bool) (from count : ℕ) → find p (range_with_len from count) ≡ None → (k : ℕ) → from ≤ k → k < from + count → p k ≡ false
none_found p from zero found k above below = absurd (omega arith)
none_found p from (suc count) found k above below = grind (arith, found, none_found p (from + 1) count)

first_found : (p : ℕ → Bool) (from count address : ℕ) → find p (range_with_len from count) ≡ Some address → (from ≤ address) × (address < from + count) × (p address ≡ true) × ((k : ℕ) → from ≤ k → k < address → p k ≡ false)
first_found p from zero address found = absurd (grind (arith, found))
first_found p from (suc count) address found = grind (arith, found, first_found p (from + 1) count address)

abbrev pub next_named : List (Option ℕ) → ℕ → ℕ → Option ℕ
next_named memory from count = find (λ address. is_some (byte_of memory address)) (range_with_len from count)

-- ---- the pieces below an address

pub record IsSoFar (memory : List (Option ℕ)) (from : ℕ) (pieces : List Piece) : Type 0 where
  pub within : from ≤ length memory
  pub are : ArePieces 0 pieces
  pub gap : (address : ℕ) → from ≤ address → IsSome (byte_of memory address) → least_after 0 pieces ≤ address
  pub bytes : All HasBytes pieces
  pub below : (address : ℕ) → byte_at (map run_of pieces) address ≡ (if nat_lt address from then byte_of memory address else None)

-- the bytes of the run that begins at an address
pub record IsRun (memory : List (Option ℕ)) (address : ℕ) (run : List ℕ) : Type 0 where
  pub within : address + length run ≤ length memory
  pub bytes : (k : ℕ) → k < length run → byte_of memory (address + k) ≡ Some (get_or run k 0)
  pub stops : byte_of memory (address + length run) ≡ None
  pub fit : All (λ byte. byte < 256) run

pub starts : (memory : List (Option ℕ)) → IsSoFar memory 0 []
unfolding byte_at first_of
starts memory = record {
  within = omega arith;
  are = tt;
  gap = λ address above some. omega arith;
  bytes = All-nil HasBytes;
  below = λ address. grind (arith, nat_tests);
}

byte_in_run : (memory : List (Option ℕ)) (address : ℕ) (run : List ℕ) → IsRun memory address run
    → (a : ℕ) → byte_in a (address, run) ≡ (if nat_le address a && nat_lt a (address + length run) then byte_of memory a else None)
byte_in_run memory address run is_run a = elim (cases_lt a address) [
  | inl below ↦ grind (arith, nat_tests)
  | inr above ↦ elim (cases_lt (a - address) (length run)) [
    | inl inside ↦
        let same : address + (a - address) ≡ a = omega arith in
        let here : byte_of memory a ≡ Some (get_or run (a - address) 0) = rw same at (is_run.bytes (a - address) inside) in
        grind (arith, nat_tests, slice_get-get_or run (a - address) 0 inside)
    | inr past ↦ grind (arith, nat_tests, slice_get_past run (a - address) past)
  ]
]

has_byte : (memory : List (Option ℕ)) (address : ℕ) (run : List ℕ) → IsRun memory address run → IsSome (byte_of memory address) → 0 < length run
has_byte memory address [] is_run named =
    let same : address + 0 ≡ address = omega arith in
    let none : byte_of memory address ≡ None = rw same at is_run.stops in
    absurd (grind (arith, named, none))
has_byte memory address (byte ∷ run) is_run named = omega arith

behind : (memory : List (Option ℕ)) (end address : ℕ) → byte_of memory end ≡ None → end ≤ address → IsSome (byte_of memory address) → end < address
behind memory end address none above named = grind (arith, none, above, named)

pub moves_on : (memory : List (Option ℕ)) (from count address : ℕ) (run : List ℕ) → Some address ≡ next_named memory from count → IsRun memory address run → from < address + length run
moves_on memory from count address run found is_run =
    let first = first_found (λ a. is_some (byte_of memory a)) from count address (sym found) in
    omega (arith, first.0, has_byte memory address run is_run first.2)

pub next_within : (memory : List (Option ℕ)) (from count address : ℕ) → Some address ≡ next_named memory from count → address < from + count
next_within memory from count address found = (first_found (λ a. is_some (byte_of memory a)) from count address (sym found)).1

pub goes_on : (memory : List (Option ℕ)) (from count address end : ℕ) (pieces : List Piece) (run : List ℕ) → length memory ≤ MAX_MEMORY → end ≡ address + length run → IsSoFar memory from pieces
    → Some address ≡ next_named memory from count → IsRun memory address run
    → IsSoFar memory end (pieces ++ (record { address = address; bytes = run }) ∷ [])
goes_on memory from count address end pieces run room e so_far found is_run =
    let piece : Piece = record { address = address; bytes = run } in
    let first = first_found (λ a. is_some (byte_of memory a)) from count address (sym found) in
    rw e record {
      within = is_run.within;
      are = one_more 0 pieces piece so_far.are (so_far.gap address first.0 first.2) (has_byte memory address run is_run first.2) (omega (arith, is_run.within));
      gap = λ a above named. omega (arith, least_behind 0 pieces piece, behind memory (address + length run) a is_run.stops above named);
      bytes = All-append HasBytes pieces (piece ∷ []) so_far.bytes (All-cons HasBytes piece [] is_run.fit (All-nil HasBytes));
      below = λ a. byte_more pieces piece a ∙ grind (arith, nat_tests, so_far.below a, byte_in_run memory address run is_run a, first.0, first.3 a);
    }

pub ends : (memory : List (Option ℕ)) (from count : ℕ) (pieces : List Piece) → from + count ≡ length memory → IsSoFar memory from pieces → None ≡ next_named memory from count
    → (address : ℕ) → byte_at (map run_of pieces) address ≡ byte_of memory address
ends memory from count pieces all so_far found address = grind (arith, nat_tests, so_far.below address, byte_past memory address, none_found (λ a. is_some (byte_of memory a)) from count (sym found) address)
