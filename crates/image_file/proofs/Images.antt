-- The bytes of an image pass every check and are read as it, and bytes that pass every check are those of what is read.
use Rattle.std.proofs.Common.{◌≡◌, ◌≢◌, ℕ, zero, suc, ◌+◌, ◌*◌, ◌^◌, ◌<◌, ◌≤◌, true, eqb, List, [], ◌∷◌, ◌++◌, length, take, drop, map, Option, Some, None, All, refl, sym, ap, subst, ◌∙◌, append_assoc, arith, inl, inr}
use Rattle.std.specs.Prelude.{◌⊎◌}
use Rattle.std.specs.List.{flat_map, range_with_len, starts_with, AllByRecursion}
use Rattle.std.proofs.lemmas.List.{take_at, drop_at, drop-drop, take-append-drop, length-append, length-take, length-drop, append-nil, drop_all}
use Rattle.std.proofs.lemmas.List.FromFn.{length-map-range_with_len}
use Rattle.std.proofs.lemmas.List.Elements.{All-nil, All-cons, All-from_recursion}
use Rattle.std.proofs.lemmas.Bool.Decides.{nat_tests, Decides-eqb}
use Rattle.std.proofs.lemmas.Slice.Eq.{starts_is}
use Rattle.pmsi_model.specs.declared.image.Piece.{Piece}
use Rattle.pmsi_model.specs.declared.limits.TheConstants.{MAX_TEXT_WORDS, MAX_MEMORY, MAX_FILE_BYTES}
use Rattle.pmsi_model.specs.Image.{ImageValue, ArePieces}
use Rattle.image_file.specs.declared.fault.ImageFault.{ImageFault}
use Rattle.image_file.specs.declared.fault.ImageFault.TheVariants as faults
use Rattle.image_file.specs.declared.format.TheConstants.{HEADER_BYTES, PIECE_HEADER_BYTES}
use Rattle.image_file.specs.Format.{magic, number_bytes, piece_bytes, image_bytes, IsBytesOf}
use Rattle.image_file.specs.Checks.{number_at, word_count, piece_count, text_end, piece_place, least_address, address_of, length_of, first_failing, header_checks, piece_checks, pieces_checks, end_check, checks, fault_of, HasFault}
use Rattle.image_file.specs.Reading.{word_at, words_in, piece_at, pieces_in, image_in, IsWhole}
use Rattle.image_file.specs.Laws.{ImageOrFault, NotBoth, OneImage}
use Rattle.image_file.proofs.Numbers.{IsBytes, IsBytes-drop, IsBytes-take, all_from_bytes, bytes_from_all, length-number, number_below, number_spelt, number_again, behind}
use Rattle.image_file.proofs.Checks.{front_passes, passes_front, fails_front}
use Rattle.image_file.proofs.Places.{first_place, first_least, next_place, next_least, whole_piece, whole_passes}

-- ---- words

words_spelt : (n k : ℕ) (bytes : List ℕ) → IsBytes bytes → HEADER_BYTES + 4 * (k + n) ≤ length bytes
    → drop (HEADER_BYTES + 4 * k) bytes ≡ flat_map number_bytes (map (word_at bytes) (range_with_len k n)) ++ drop (HEADER_BYTES + 4 * (k + n)) bytes
words_spelt zero k bytes fits long =
    let e : k + 0 ≡ k = omega arith in
    rw e refl
words_spelt (suc n) k bytes fits long =
    let at = HEADER_BYTES + 4 * k in
    let first = number_spelt bytes at fits (omega arith) in
    let more = words_spelt n (k + 1) bytes fits (omega arith) in
    let next : (HEADER_BYTES + 4 * k) + 4 ≡ HEADER_BYTES + 4 * (k + 1) = omega arith in
    let end : (k + 1) + n ≡ k + suc n = omega arith in
    let words = map (word_at bytes) (range_with_len (k + 1) n) in
    first
    ∙ ap (λ (place : ℕ). number_bytes (number_at bytes at) ++ drop place bytes) next
    ∙ ap (λ (x : List ℕ). number_bytes (number_at bytes at) ++ x) more
    ∙ ap (λ (j : ℕ). number_bytes (number_at bytes at) ++ (flat_map number_bytes words ++ drop (HEADER_BYTES + 4 * j) bytes)) end
    ∙ sym (append_assoc (number_bytes (number_at bytes at)) (flat_map number_bytes words) (drop (HEADER_BYTES + 4 * (k + suc n)) bytes))

words_small : (n k : ℕ) (bytes : List ℕ) → IsBytes bytes → All (λ word. word < 2 ^ 32) (map (word_at bytes) (range_with_len k n))
words_small zero k bytes fits = All-nil (λ word. word < 2 ^ 32)
words_small (suc n) k bytes fits = All-cons (λ word. word < 2 ^ 32) (word_at bytes k) (map (word_at bytes) (range_with_len (k + 1) n)) (number_below bytes (HEADER_BYTES + 4 * k) fits) (words_small n (k + 1) bytes fits)

-- ---- pieces

-- a piece that passes its checks is spelt where it begins
piece_spelt : (bytes : List ℕ) (i : ℕ) → IsBytes bytes → IsWhole bytes i → drop (piece_place bytes i) bytes ≡ piece_bytes (piece_at bytes i) ++ drop (piece_place bytes (i + 1)) bytes
unfolding piece_bytes piece_at
piece_spelt bytes i fits whole =
    let place = piece_place bytes i in
    let body = place + PIECE_HEADER_BYTES in
    let inside : piece_place bytes (i + 1) ≤ length bytes = whole.inside in
    let next = next_place bytes i in
    let address = number_spelt bytes place fits (omega arith) in
    let count = number_spelt bytes (place + 4) fits (omega arith) in
    let at : (place + 4) + 4 ≡ body = omega arith in
    let len : length (take (length_of bytes i) (drop body bytes)) ≡ length_of bytes i = omega (arith, length-take (length_of bytes i) (drop body bytes), length-drop body bytes) in
    let parts : drop body bytes ≡ take (length_of bytes i) (drop body bytes) ++ drop (piece_place bytes (i + 1)) bytes =
    sym (take-append-drop (length_of bytes i) (drop body bytes)) ∙ ap (λ (x : List ℕ). take (length_of bytes i) (drop body bytes) ++ x) (drop-drop (length_of bytes i) body bytes ∙ ap (λ (p : ℕ). drop p bytes) (sym next)) in
    let rest : drop (place + 4) bytes ≡ number_bytes (length_of bytes i) ++ (take (length_of bytes i) (drop body bytes) ++ drop (piece_place bytes (i + 1)) bytes) =
    count ∙ ap (λ (p : ℕ). number_bytes (length_of bytes i) ++ drop p bytes) at ∙ ap (λ (x : List ℕ). number_bytes (length_of bytes i) ++ x) parts in
    address ∙ ap (λ (x : List ℕ). number_bytes (address_of bytes i) ++ x) rest
    ∙ rw len (simp append_assoc)

-- what the pieces from i on are, where n of them pass their checks
record AreSpelt (bytes : List ℕ) (i n : ℕ) (pieces : List Piece) : Type 0 where
  spelt : drop (piece_place bytes i) bytes ≡ flat_map piece_bytes pieces ++ drop (piece_place bytes (i + n)) bytes
  inside : piece_place bytes (i + n) ≤ length bytes
  within : ArePieces (least_address bytes i) pieces
  all_bytes : All (λ piece. All (λ byte. byte < 256) piece.bytes) pieces

piece_length : (bytes : List ℕ) (i : ℕ) → IsWhole bytes i → length (piece_at bytes i).bytes ≡ length_of bytes i
unfolding piece_at
piece_length bytes i whole =
    let body = piece_place bytes i + PIECE_HEADER_BYTES in
    let inside : piece_place bytes (i + 1) ≤ length bytes = whole.inside in
    omega (arith, next_place bytes i, length-take (length_of bytes i) (drop body bytes), length-drop body bytes)

piece_address : (bytes : List ℕ) (i : ℕ) → (piece_at bytes i).address ≡ address_of bytes i
unfolding piece_at
piece_address bytes i = refl

piece_of_bytes : (bytes : List ℕ) (i : ℕ) → IsBytes bytes → All (λ byte. byte < 256) (piece_at bytes i).bytes
unfolding piece_at
piece_of_bytes bytes i fits =
    let body = piece_place bytes i + PIECE_HEADER_BYTES in
    all_from_bytes (take (length_of bytes i) (drop body bytes)) (IsBytes-take (length_of bytes i) (drop body bytes) (IsBytes-drop body bytes fits))

pieces_spelt : (n i : ℕ) (bytes : List ℕ) → IsBytes bytes → piece_place bytes i ≤ length bytes
    → first_failing (flat_map (piece_checks bytes) (range_with_len i n)) ≡ None → AreSpelt bytes i n (map (piece_at bytes) (range_with_len i n))
pieces_spelt zero i bytes fits inside none =
    let e : i + 0 ≡ i = omega arith in
    record { spelt = rw e refl; inside = rw e inside; within = tt; all_bytes = All-nil (λ piece. All (λ byte. byte < 256) piece.bytes) }
pieces_spelt (suc n) i bytes fits inside none =
    let others = flat_map (piece_checks bytes) (range_with_len (i + 1) n) in
    let passes = front_passes (piece_checks bytes i) others none in
    let whole = whole_piece bytes i passes in
    let more = pieces_spelt n (i + 1) bytes fits whole.inside (sym (passes_front (piece_checks bytes i) others passes) ∙ none) in
    let rest = map (piece_at bytes) (range_with_len (i + 1) n) in
    let end : (i + 1) + n ≡ i + suc n = omega arith in
    let len = piece_length bytes i whole in
    let address = piece_address bytes i in
    let next : ArePieces ((piece_at bytes i).address + length (piece_at bytes i).bytes + 1) rest = subst (λ (least : ℕ). ArePieces least rest) (omega (arith, whole.least)) more.within in
    record {
      spelt = piece_spelt bytes i fits whole
          ∙ ap (λ (x : List ℕ). piece_bytes (piece_at bytes i) ++ x) more.spelt
          ∙ ap (λ (j : ℕ). piece_bytes (piece_at bytes i) ++ (flat_map piece_bytes rest ++ drop (piece_place bytes j) bytes)) end
          ∙ sym (append_assoc (piece_bytes (piece_at bytes i)) (flat_map piece_bytes rest) (drop (piece_place bytes (i + suc n)) bytes));
      inside = subst (λ (j : ℕ). piece_place bytes j ≤ length bytes) end more.inside;
      within = (omega (arith, whole.above), omega (arith, whole.some), omega (arith, whole.ends), next);
      all_bytes = All-cons (λ piece. All (λ byte. byte < 256) piece.bytes) (piece_at bytes i) rest (piece_of_bytes bytes i fits) more.all_bytes;
    }

-- ---- what is spelt is read again

words_again : (words rest : List ℕ) (k : ℕ) (bytes : List ℕ) → All (λ word. word < 2 ^ 32) words → drop (HEADER_BYTES + 4 * k) bytes ≡ flat_map number_bytes words ++ rest
    → (map (word_at bytes) (range_with_len k (length words)) ≡ words) × (drop (HEADER_BYTES + 4 * (k + length words)) bytes ≡ rest)
words_again [] rest k bytes small spelt =
    let e : k + 0 ≡ k = omega arith in
    (refl, rw e spelt)
words_again (word ∷ words) rest k bytes small spelt =
    let at = HEADER_BYTES + 4 * k in
    let others = flat_map number_bytes words ++ rest in
    let here : drop at bytes ≡ number_bytes word ++ others = spelt ∙ append_assoc (number_bytes word) (flat_map number_bytes words) rest in
    let same : word_at bytes k ≡ word = number_again bytes others at word (small 0 0 (omega arith)) here in
    let next : at + 4 ≡ HEADER_BYTES + 4 * (k + 1) = omega arith in
    let left = behind bytes (number_bytes word) others at 4 (length-number word) here in
    let more = words_again words rest (k + 1) bytes (λ j d lt. small (suc j) d (omega arith)) (ap (λ (p : ℕ). drop p bytes) (sym next) ∙ left) in
    let end : (k + 1) + length words ≡ k + suc (length words) = omega arith in
    (ap (λ (w : ℕ). w ∷ map (word_at bytes) (range_with_len (k + 1) (length words))) same ∙ ap (λ (ws : List ℕ). word ∷ ws) more.0, ap (λ (j : ℕ). drop (HEADER_BYTES + 4 * j) bytes) (sym end) ∙ more.1)

-- the piece that is spelt at a place
record IsThere (bytes : List ℕ) (i : ℕ) (piece : Piece) (rest : List ℕ) : Type 0 where
  same : piece_at bytes i ≡ piece
  whole : IsWhole bytes i
  left : drop (piece_place bytes (i + 1)) bytes ≡ rest
  end : least_address bytes (i + 1) ≡ (piece.address + length piece.bytes) + 1

same_piece : (piece : Piece) (address : ℕ) (bytes : List ℕ) → address ≡ piece.address → bytes ≡ piece.bytes → record { address = address; bytes = bytes } ≡ piece
same_piece piece address bytes a b = rw (a, b) refl

piece_again : (bytes : List ℕ) (i : ℕ) (piece : Piece) (rest : List ℕ) → piece_place bytes i ≤ length bytes → drop (piece_place bytes i) bytes ≡ piece_bytes piece ++ rest
    → least_address bytes i ≤ piece.address → 0 < length piece.bytes → piece.address + length piece.bytes ≤ MAX_MEMORY → IsThere bytes i piece rest
unfolding number_bytes piece_bytes piece_at
piece_again bytes i piece rest inside spelt above some ends =
    let place = piece_place bytes i in
    let body = place + PIECE_HEADER_BYTES in
    let count = number_bytes (length piece.bytes) in
    let behind_address = count ++ (piece.bytes ++ rest) in
    let here : drop place bytes ≡ number_bytes piece.address ++ behind_address =
    spelt ∙ append_assoc (number_bytes piece.address) (count ++ piece.bytes) rest ∙ ap (λ (x : List ℕ). number_bytes piece.address ++ x) (append_assoc count piece.bytes rest) in
    let address : address_of bytes i ≡ piece.address = number_again bytes behind_address place piece.address (omega arith) here in
    let then = behind bytes (number_bytes piece.address) behind_address place 4 (length-number piece.address) here in
    let len : length_of bytes i ≡ length piece.bytes = number_again bytes (piece.bytes ++ rest) (place + 4) (length piece.bytes) (omega arith) then in
    let four : (place + 4) + 4 ≡ body = omega arith in
    let left : drop body bytes ≡ piece.bytes ++ rest = ap (λ (p : ℕ). drop p bytes) (sym four) ∙ behind bytes count (piece.bytes ++ rest) (place + 4) 4 (length-number (length piece.bytes)) then in
    let whole_length : length (drop place bytes) ≡ 4 + (4 + (length piece.bytes + length rest)) =
    ap length here ∙ length-append (number_bytes piece.address) behind_address
    ∙ omega (arith, length-number piece.address, length-number (length piece.bytes), length-append count (piece.bytes ++ rest), length-append piece.bytes rest) in
    let next = next_place bytes i in
    record {
      same = same_piece piece (address_of bytes i) (take (length_of bytes i) (drop body bytes)) address (ap (take (length_of bytes i)) left ∙ take_at piece.bytes rest (length_of bytes i) (sym len));
      whole = record {
        some = omega arith;
        few = omega arith;
        ends = omega arith;
        above = omega arith;
        inside = omega (arith, length-drop place bytes);
        next = next;
        least = next_least bytes i;
      };
      left = ap (λ (p : ℕ). drop p bytes) next ∙ behind bytes piece.bytes rest body (length_of bytes i) (sym len) left;
      end = omega (arith, next_least bytes i);
    }

record ArePassed (bytes : List ℕ) (i : ℕ) (pieces : List Piece) : Type 0 where
  passes : first_failing (flat_map (piece_checks bytes) (range_with_len i (length pieces))) ≡ None
  same : map (piece_at bytes) (range_with_len i (length pieces)) ≡ pieces
  ends : piece_place bytes (i + length pieces) ≡ length bytes

pieces_again : (pieces : List Piece) (i : ℕ) (bytes : List ℕ) → piece_place bytes i ≤ length bytes → drop (piece_place bytes i) bytes ≡ flat_map piece_bytes pieces
    → ArePieces (least_address bytes i) pieces → ArePassed bytes i pieces
pieces_again [] i bytes inside spelt within =
    let e : i + 0 ≡ i = omega arith in
    let len : length (drop (piece_place bytes i) bytes) ≡ 0 = ap length spelt in
    record { passes = refl; same = refl; ends = rw e (omega (arith, length-drop (piece_place bytes i) bytes)) }
pieces_again (piece ∷ pieces) i bytes inside spelt within =
    let others = flat_map (piece_checks bytes) (range_with_len (i + 1) (length pieces)) in
    let here = piece_again bytes i piece (flat_map piece_bytes pieces) inside spelt within.0 within.1 within.2 in
    let more = pieces_again pieces (i + 1) bytes here.whole.inside here.left (subst (λ (least : ℕ). ArePieces least pieces) (sym here.end) within.3) in
    let end : (i + 1) + length pieces ≡ i + suc (length pieces) = omega arith in
    record {
      passes = passes_front (piece_checks bytes i) others (whole_passes bytes i here.whole) ∙ more.passes;
      same = ap (λ (p : Piece). p ∷ map (piece_at bytes) (range_with_len (i + 1) (length pieces))) here.same ∙ ap (λ (ps : List Piece). piece ∷ ps) more.same;
      ends = ap (piece_place bytes) (sym end) ∙ more.ends;
    }

-- ---- how many pieces and bytes there are

pub pieces_few : (pieces : List Piece) (least : ℕ) → least ≤ MAX_MEMORY + 1 → ArePieces least pieces → length pieces + least ≤ MAX_MEMORY + 1
pieces_few [] least low within = omega arith
pieces_few (piece ∷ pieces) least low within =
    let above = within.0 in
    let ends = within.2 in
    omega (arith, pieces_few pieces ((piece.address + length piece.bytes) + 1) (omega arith) within.3)

piece_size : (piece : Piece) → length (piece_bytes piece) ≡ 8 + length piece.bytes
unfolding piece_bytes number_bytes
piece_size piece = omega arith

pieces_size : (pieces : List Piece) (least : ℕ) → least ≤ MAX_MEMORY + 1 → ArePieces least pieces → length (flat_map piece_bytes pieces) + 9 * least ≤ 9 * (MAX_MEMORY + 1)
pieces_size [] least low within = omega arith
pieces_size (piece ∷ pieces) least low within =
    let above = within.0 in
    let ends = within.2 in
    let size = piece_size piece in
    omega (arith, length-append (piece_bytes piece) (flat_map piece_bytes pieces), pieces_size pieces ((piece.address + length piece.bytes) + 1) (omega arith) within.3)

pub words_size : (words : List ℕ) → length (flat_map number_bytes words) ≡ 4 * length words
words_size [] = refl
words_size (word ∷ words) = omega (arith, length-append (number_bytes word) (flat_map number_bytes words), length-number word, words_size words)

small_pieces : (pieces : List Piece) (least : ℕ) → ArePieces least pieces → AllByRecursion (λ piece. length piece.bytes < 2 ^ 32) pieces
small_pieces [] least within = tt
small_pieces (piece ∷ pieces) least within =
    let ends = within.2 in
    (omega arith, small_pieces pieces ((piece.address + length piece.bytes) + 1) within.3)

pub pieces_small : (pieces : List Piece) → ArePieces 0 pieces → All (λ piece. length piece.bytes < 2 ^ 32) pieces
pieces_small pieces within = All-from_recursion (λ piece. length piece.bytes < 2 ^ 32) pieces (small_pieces pieces 0 within)

-- ---- the header

record IsHeader (bytes : List ℕ) : Type 0 where
  long : HEADER_BYTES ≤ length bytes
  begins : starts_with eqb bytes magic ≡ true
  few : word_count bytes ≤ MAX_TEXT_WORDS
  words : text_end bytes ≤ length bytes

header_from : (bytes : List ℕ) → first_failing (header_checks bytes) ≡ None → IsHeader bytes
unfolding header_checks
header_from bytes none = record {
  long = grind (arith, nat_tests);
  begins = grind (arith, nat_tests);
  few = grind (arith, nat_tests);
  words = grind (arith, nat_tests);
}

header_passes : (bytes : List ℕ) → IsHeader bytes → first_failing (header_checks bytes) ≡ None
unfolding header_checks
header_passes bytes header = grind (arith, nat_tests)

-- ---- whole images

pub image_spelt : (bytes : List ℕ) → IsBytes bytes → fault_of bytes ≡ None → IsBytesOf (image_in bytes) bytes
unfolding fault_of checks pieces_checks image_bytes image_in words_in pieces_in number_bytes number_at
image_spelt bytes fits none =
    let passes = front_passes (header_checks bytes) (pieces_checks bytes) none in
    let header = header_from bytes passes in
    let behind_header : first_failing (pieces_checks bytes) ≡ None = sym (passes_front (header_checks bytes) (pieces_checks bytes) passes) ∙ none in
    let each = flat_map (piece_checks bytes) (range_with_len 0 (piece_count bytes)) in
    let each_passes = front_passes each (end_check bytes ∷ []) behind_header in
    let ended : first_failing (end_check bytes ∷ []) ≡ None = sym (passes_front each (end_check bytes ∷ []) each_passes) ∙ behind_header in
    let no_more : length bytes ≤ piece_place bytes (piece_count bytes) = grind (arith, nat_tests) in
    let words = map (word_at bytes) (range_with_len 0 (word_count bytes)) in
    let pieces = map (piece_at bytes) (range_with_len 0 (piece_count bytes)) in
    let word_len : length words ≡ word_count bytes = length-map-range_with_len (word_at bytes) 0 (word_count bytes) in
    let piece_len : length pieces ≡ piece_count bytes = length-map-range_with_len (piece_at bytes) 0 (piece_count bytes) in
    let begins = (starts_is Decides-eqb bytes magic (starts_with eqb bytes magic) refl).0 header.begins in
    let long = header.long in
    let text = header.words in
    let first = number_spelt bytes 8 fits (omega arith) in
    let second = number_spelt bytes 12 fits (omega arith) in
    let third = words_spelt (word_count bytes) 0 bytes fits (omega arith) in
    let place = first_place bytes in
    let spelt = pieces_spelt (piece_count bytes) 0 bytes fits (omega arith) each_passes in
    let words_end : 0 + word_count bytes ≡ word_count bytes = omega arith in
    let pieces_end : 0 + piece_count bytes ≡ piece_count bytes = omega arith in
    let nothing : drop (piece_place bytes (piece_count bytes)) bytes ≡ [] = drop_all (piece_place bytes (piece_count bytes)) bytes no_more in
    let text_bytes = flat_map number_bytes words in
    let piece_texts = flat_map piece_bytes pieces in
    let last : drop (text_end bytes) bytes ≡ piece_texts =
    ap (λ (p : ℕ). drop p bytes) (sym place) ∙ spelt.spelt ∙ ap (λ (j : ℕ). piece_texts ++ drop (piece_place bytes j) bytes) pieces_end ∙ ap (λ (x : List ℕ). piece_texts ++ x) nothing ∙ append-nil piece_texts in
    let behind_words : drop 16 bytes ≡ text_bytes ++ piece_texts = third ∙ ap (λ (j : ℕ). text_bytes ++ drop (HEADER_BYTES + 4 * j) bytes) words_end ∙ ap (λ (x : List ℕ). text_bytes ++ x) last in
    record {
      within = record {
        text = omega (arith, header.few);
        words = words_small (word_count bytes) 0 bytes fits;
        pieces = subst (λ (least : ℕ). ArePieces least pieces) (first_least bytes) spelt.within;
        bytes = spelt.all_bytes;
      };
      spelt = rw (word_len, piece_len) (begins ∙ ap (λ (x : List ℕ). magic ++ x) (first ∙ ap (λ (x : List ℕ). number_bytes (word_count bytes) ++ x) (second ∙ ap (λ (x : List ℕ). number_bytes (piece_count bytes) ++ x) behind_words)));
    }

spelt_size : (image : ImageValue) → length (image_bytes image) ≡ 16 + (4 * length image.text + length (flat_map piece_bytes image.pieces))
unfolding image_bytes number_bytes
spelt_size image = omega (arith, length-append (flat_map number_bytes image.text) (flat_map piece_bytes image.pieces), words_size image.text)

same_image : (image : ImageValue) (text : List ℕ) (pieces : List Piece) → text ≡ image.text → pieces ≡ image.pieces → record { text = text; pieces = pieces } ≡ image
same_image image text pieces a b = rw (a, b) refl

pub image_again : (image : ImageValue) (bytes : List ℕ) → IsBytesOf image bytes → (fault_of bytes ≡ None) × (image_in bytes ≡ image)
unfolding fault_of checks pieces_checks image_bytes image_in words_in pieces_in number_bytes
image_again image bytes is =
    let within = is.within in
    let text_bytes = flat_map number_bytes image.text in
    let piece_texts = flat_map piece_bytes image.pieces in
    let counts = number_bytes (length image.text) ++ (number_bytes (length image.pieces) ++ (text_bytes ++ piece_texts)) in
    let spelt : bytes ≡ magic ++ counts = is.spelt in
    let few = pieces_few image.pieces 0 (omega arith) within.pieces in
    let first : drop 8 bytes ≡ counts = ap (drop 8) spelt ∙ drop_at magic counts 8 refl in
    let words : word_count bytes ≡ length image.text = number_again bytes (number_bytes (length image.pieces) ++ (text_bytes ++ piece_texts)) 8 (length image.text) (omega (arith, within.text)) first in
    let second : drop 12 bytes ≡ number_bytes (length image.pieces) ++ (text_bytes ++ piece_texts) = behind bytes (number_bytes (length image.text)) (number_bytes (length image.pieces) ++ (text_bytes ++ piece_texts)) 8 4 (length-number (length image.text)) first in
    let count : piece_count bytes ≡ length image.pieces = number_again bytes (text_bytes ++ piece_texts) 12 (length image.pieces) (omega arith) second in
    let third : drop 16 bytes ≡ text_bytes ++ piece_texts = behind bytes (number_bytes (length image.pieces)) (text_bytes ++ piece_texts) 12 4 (length-number (length image.pieces)) second in
    let text = words_again image.text piece_texts 0 bytes within.words third in
    let size : length bytes ≡ 16 + (4 * length image.text + length piece_texts) = ap length is.spelt ∙ spelt_size image in
    let text_ends : HEADER_BYTES + 4 * (0 + length image.text) ≡ piece_place bytes 0 = omega (arith, first_place bytes) in
    let pieces = pieces_again image.pieces 0 bytes (omega arith) (ap (λ (p : ℕ). drop p bytes) (sym text_ends) ∙ text.1) (subst (λ (least : ℕ). ArePieces least image.pieces) (sym (first_least bytes)) within.pieces) in
    let header : IsHeader bytes = record {
      long = omega arith;
      begins = (starts_is Decides-eqb bytes magic (starts_with eqb bytes magic) refl).1 counts spelt;
      few = omega (arith, within.text);
      words = omega arith;
    } in
    let pieces_end : 0 + length image.pieces ≡ piece_count bytes = omega arith in
    let ends : piece_place bytes (piece_count bytes) ≡ length bytes = ap (piece_place bytes) (sym pieces_end) ∙ pieces.ends in
    let each = flat_map (piece_checks bytes) (range_with_len 0 (piece_count bytes)) in
    let each_passes : first_failing each ≡ None = rw count pieces.passes in
    let ended : first_failing (end_check bytes ∷ []) ≡ None = grind (arith, nat_tests) in (
      passes_front (header_checks bytes) (each ++ end_check bytes ∷ []) (header_passes bytes header) ∙ passes_front each (end_check bytes ∷ []) each_passes ∙ ended,
      same_image image (map (word_at bytes) (range_with_len 0 (word_count bytes))) (map (piece_at bytes) (range_with_len 0 (piece_count bytes))) (rw words text.0) (rw count pieces.same),
    )

pub image_size : (image : ImageValue) (bytes : List ℕ) → IsBytesOf image bytes → length bytes ≤ MAX_FILE_BYTES
image_size image bytes is =
    let few = is.within.text in
    let size = pieces_size image.pieces 0 (omega arith) is.within.pieces in
    omega (arith, ap length is.spelt, spelt_size image)

-- ---- images and faults

either_by : (bytes : List ℕ) (found : Option ImageFault) → IsBytes bytes → fault_of bytes ≡ found → ((image : ImageValue) × IsBytesOf image bytes) ⊎ ((fault : ImageFault) × HasFault bytes fault)
either_by bytes None fits e = inl (image_in bytes, image_spelt bytes fits e)
either_by bytes (Some fault) fits e = inr (fault, e)

pub either : ImageOrFault
either bytes all = either_by bytes (fault_of bytes) (bytes_from_all bytes all) refl

pub not_both : NotBoth
not_both image fault bytes is has =
    let again = image_again image bytes is in
    let none : fault_of bytes ≡ None = again.0 in
    absurd cc

pub one_image : OneImage
one_image image other bytes is other_is = sym (image_again image bytes is).1 ∙ (image_again other bytes other_is).1

-- ---- what a reader finds

pub header_fault : (bytes : List ℕ) (fault : ImageFault) → first_failing (header_checks bytes) ≡ Some fault → HasFault bytes fault
unfolding fault_of checks
header_fault bytes fault some = fails_front (header_checks bytes) (pieces_checks bytes) fault some

pub pieces_fault : (bytes : List ℕ) (found : Option ImageFault) → first_failing (header_checks bytes) ≡ None → first_failing (pieces_checks bytes) ≡ found → fault_of bytes ≡ found
unfolding fault_of checks
pieces_fault bytes found none e = passes_front (header_checks bytes) (pieces_checks bytes) none ∙ e

pub read_is : (bytes text : List ℕ) (pieces : List Piece) → IsBytes bytes → fault_of bytes ≡ None → text ≡ words_in bytes → pieces ≡ pieces_in bytes → IsBytesOf (record { text = text; pieces = pieces }) bytes
unfolding image_in
read_is bytes text pieces fits none a b = subst (λ (image : ImageValue). IsBytesOf image bytes) (sym (same_image (image_in bytes) text pieces a b)) (image_spelt bytes fits none)

-- for the bytes of an image only want of memory is answered
pub only_memory : (image : ImageValue) (bytes : List ℕ) (fault : ImageFault) → IsBytesOf image bytes → (fault ≢ faults.NoMemory → HasFault bytes fault) → fault ≡ faults.NoMemory
only_memory image bytes (faults.Short needed have) is h = absurd (not_both image (faults.Short needed have) bytes is (h (λ e. cc)))
only_memory image bytes faults.Magic is h = absurd (not_both image faults.Magic bytes is (h (λ e. cc)))
only_memory image bytes (faults.Limit n) is h = absurd (not_both image (faults.Limit n) bytes is (h (λ e. cc)))
only_memory image bytes (faults.Range n) is h = absurd (not_both image (faults.Range n) bytes is (h (λ e. cc)))
only_memory image bytes (faults.Order n) is h = absurd (not_both image (faults.Order n) bytes is (h (λ e. cc)))
only_memory image bytes (faults.Extra n) is h = absurd (not_both image (faults.Extra n) bytes is (h (λ e. cc)))
only_memory image bytes faults.NoMemory is h = refl
