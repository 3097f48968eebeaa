-- The text of an image, line by line.
use Rattle.std.proofs.Common.{◌≡◌, Bool, ℕ, zero, suc, ◌+◌, ◌*◌, ◌^◌, ◌<◌, ◌≤◌, false, true, List, [], ◌∷◌, ◌++◌, map, length, take, drop, codes, None, refl, ap, subst, sym, ◌∙◌, arith, add-zero, append_assoc, length-take, length-drop, All}
use Rattle.std.specs.Prelude.{nat_lt}
use Rattle.std.specs.List.{AllZip, flat_map, find, range_with_len}
use Rattle.std.proofs.lemmas.List.Elements.{All-head, All-tail, All-take, All-drop}
use borrow.Author.Tests.{tests}
use Rattle.pmsi_model.specs.declared.limits.TheConstants.{MAX_TEXT_WORDS, MAX_MEMORY}
use Rattle.pmsi_model.specs.declared.image.Piece.{Piece}
use Rattle.pmsi_model.specs.Image.{ImageValue, IsImage, ArePieces, end_of}
use Rattle.pmsi_model.specs.Instruction.{instr_of}
use Rattle.pmsi_model.specs.Lines.{hex_word}
use Rattle.pmsi_model.proofs.Cases.{by_bool}
use Rattle.asm_parse.specs.Lines.{lines_of}
use Rattle.asm_parse.specs.Mnemonics.{Item}
use Rattle.asm_parse.specs.Assembly.{Before, Statement, Switch, Emit, MoveTo, has_byte, size_of, steps_from, steps_of, run_by, asm_fault, text_of, data_of, first_of, byte_at, IsWordOf, IsAssembled}
use Rattle.asm_parse.proofs.Exports.{none}
use Rattle.asm_print.specs.ListingText.{text_line, text_lines, byte_line, byte_lines, piece_text, data_text, listing_text}
use Rattle.asm_print.specs.ListingText.{text_of as word_text_of}
use Rattle.asm_print.proofs.TextLines.{IsTextLine}
use Rattle.asm_print.proofs.InstrLines.{text_line_of}
use Rattle.asm_print.proofs.Steps.{IsPlain, IsPlaced, before, plain_step, steps_are, Give, give_none, give_switch, give_move, give_word, at_text, at_data}
use Rattle.asm_print.proofs.DataLines.{text_plain, data_plain, org_plain, bytes_plain, bytes_line, byte_items, bytes_size, give_bytes}
use Rattle.asm_print.proofs.PieceRuns.{byte_runs, line_count, piece_runs, runs_have}

-- ---- runs below an address

abbrev AreBelow : ℕ → List (ℕ × ℕ) → Type 0
AreBelow memory [] = Unit {0}
AreBelow memory (run ∷ runs) = (run.0 + run.1 ≤ memory) × AreBelow memory runs

below_higher : (low high : ℕ) (runs : List (ℕ × ℕ)) → low ≤ high → AreBelow low runs → AreBelow high runs
below_higher low high [] more below = tt
below_higher low high (run ∷ runs) more below = (omega arith, below_higher low high runs more below.1)

no_byte : (memory address : ℕ) (runs : List (ℕ × ℕ)) → memory ≤ address → AreBelow memory runs → has_byte runs address ≡ false
no_byte memory address [] from below = refl
no_byte memory address (run ∷ runs) from below = grind (arith, tests, no_byte memory address runs from below.1, below.0)

no_overlap : (memory from n : ℕ) (runs : List (ℕ × ℕ)) → memory ≤ from → AreBelow memory runs → find (has_byte runs) (range_with_len from n) ≡ None
no_overlap memory from zero runs high below = refl
no_overlap memory from (suc n) runs high below = rw (no_byte memory from runs high below) (no_overlap memory (from + 1) n runs (omega arith) below)

-- ---- single lines

-- a source gives these words and runs of bytes, behind what was before
abbrev Gives : ℕ → Before → List ℕ → List ℕ → List (ℕ × List ℕ) → Type 0
Gives number b source words bytes = Give (steps_from number b (lines_of source)) words bytes

-- so it does behind any lines that have put bytes below an address
abbrev GivesFrom : ℕ → ℕ → List ℕ → List (ℕ × List ℕ) → Type 0
GivesFrom text memory source bytes = (number : ℕ) (runs : List (ℕ × ℕ)) → AreBelow memory runs → Gives number (before (at_data text memory) runs) source [] bytes

switch_placed : (address : ℕ) (to_data : Bool) → address ≤ 65536 → IsPlaced (at_text address) [] (Switch to_data)
switch_placed address to_data low = record { nameless = refl; text = grind (arith, tests); range = refl; overlap = refl }

switch_gives : (number address : ℕ) (to_data : Bool) (line rest words : List ℕ) (bytes : List (ℕ × List ℕ)) → address ≤ 65536 → IsPlain line (at_text address) (Switch to_data) →
    Gives (number + 1) (before (record { in_data = to_data; text_at = address; data_at = 0 }) []) rest words bytes → Gives number (before (at_text address) []) (line ++ 10 ∷ rest) words bytes
switch_gives number address to_data line rest words bytes low plain give =
    subst (λ steps. Give steps words bytes) (sym (steps_are number (at_text address) [] line rest (Switch to_data) plain (switch_placed address to_data low)))
    (give_switch number address to_data (steps_from (number + 1) (before (record { in_data = to_data; text_at = address; data_at = 0 }) []) (lines_of rest)) words bytes give)

word_placed : (address : ℕ) (item : Item) → address + 4 ≤ 65536 → IsPlaced (at_text address) [] (Emit ((4, item) ∷ []))
word_placed address item low = record { nameless = refl; text = grind (arith, tests); range = refl; overlap = refl }

word_gives : (number address word : ℕ) (line rest words : List ℕ) (bytes : List (ℕ × List ℕ)) → address + 4 ≤ 65536 → IsTextLine address line word →
    Gives (number + 1) (before (at_text (address + 4)) []) rest words bytes → Gives number (before (at_text address) []) (line ++ 10 ∷ rest) (word ∷ words) bytes
word_gives number address word line rest words bytes low stands give =
    let plain : IsPlain line (at_text address) (Emit ((4, stands.item) ∷ [])) = record { found = stands.found; read = stands.read; labels = stands.labels; behind = stands.behind; asks = stands.asks (at_text address) refl } in
    subst (λ steps. Give steps (word ∷ words) bytes) (sym (steps_are number (at_text address) [] line rest (Emit ((4, stands.item) ∷ [])) plain (word_placed address stands.item low)))
    (give_word number address word stands.item (steps_from (number + 1) (before (at_text (address + 4)) []) (lines_of rest)) words bytes stands.good give)

org_gives : (text memory address : ℕ) (rest : List ℕ) (bytes : List (ℕ × List ℕ)) → memory ≤ address → address ≤ MAX_MEMORY → GivesFrom text address rest bytes →
    GivesFrom text memory ((codes ".org " ++ hex_word address) ++ 10 ∷ rest) ((memory, []) ∷ bytes)
org_gives text memory address rest bytes low high give number runs below =
    let placed : IsPlaced (at_data text memory) runs (MoveTo address) = record { nameless = refl; text = refl; range = grind (arith, tests); overlap = refl } in
    subst (λ steps. Give steps [] ((memory, []) ∷ bytes)) (sym (steps_are number (at_data text memory) runs (codes ".org " ++ hex_word address) rest (MoveTo address) (org_plain text memory address (omega arith)) placed))
    (give_move number text memory address (steps_from (number + 1) (before (at_data text address) runs) (lines_of rest)) [] bytes (give (number + 1) runs (below_higher memory address runs low below)))

-- the run of a line of bytes
run_below : (number text memory : ℕ) (does : Statement) (runs : List (ℕ × ℕ)) → AreBelow memory runs → AreBelow (memory + size_of does) (run_by (plain_step number (at_data text memory) does) ++ runs)
run_below number text memory does runs below = by_bool (nat_lt 0 (size_of does))
    (λ some. rw some (omega arith, below_higher memory (memory + size_of does) runs (omega arith) below))
    (λ none. rw none (below_higher memory (memory + size_of does) runs (omega arith) below))

bytes_placed : (text memory : ℕ) (bytes : List ℕ) (runs : List (ℕ × ℕ)) → memory + length bytes ≤ MAX_MEMORY → AreBelow memory runs → IsPlaced (at_data text memory) runs (Emit (byte_items 7 bytes))
bytes_placed text memory bytes runs low below = record {
  nameless = refl;
  text = refl;
  range = rw (bytes_size 7 bytes) (grind (arith, tests));
  overlap = rw (no_overlap memory memory (size_of (Emit (byte_items 7 bytes))) runs (omega arith) below) refl;
}

bytes_give : (text memory : ℕ) (line rest : List ℕ) (bytes : List (ℕ × List ℕ)) → 0 < length line → memory + length line ≤ MAX_MEMORY → All (λ b. b < 256) line → GivesFrom text (memory + length line) rest bytes →
    GivesFrom text memory (bytes_line line ++ 10 ∷ rest) ((memory, line) ∷ bytes)
bytes_give text memory line rest bytes some low within give number runs below =
    let does : Statement = Emit (byte_items 7 line) in
    let give' : GivesFrom text (memory + size_of does) rest bytes = subst (λ n. GivesFrom text (memory + n) rest bytes) (sym (bytes_size 7 line)) give in
    subst (λ steps. Give steps [] ((memory, line) ∷ bytes))
    (sym (steps_are number (at_data text memory) runs (bytes_line line) rest does (bytes_plain text memory line some within) (bytes_placed text memory line runs low below)))
    (give_bytes number text memory 7 line (steps_from (number + 1) (before (at_data text (memory + size_of does)) (run_by (plain_step number (at_data text memory) does) ++ runs)) (lines_of rest)) [] bytes within
    (give' (number + 1) (run_by (plain_step number (at_data text memory) does) ++ runs) (run_below number text memory does runs below)))

-- ---- pieces

line_text : (line others rest : List ℕ) → (byte_line line ++ others) ++ rest ≡ bytes_line line ++ 10 ∷ (others ++ rest)
unfolding byte_line
line_text line others rest = append_assoc (bytes_line line ++ codes "\n") others rest ∙ append_assoc (bytes_line line) (codes "\n") (others ++ rest)

lines_give : (text count memory : ℕ) (bytes rest : List ℕ) (found : List (ℕ × List ℕ)) → count ≡ line_count bytes → memory + length bytes ≤ MAX_MEMORY → All (λ b. b < 256) bytes →
    GivesFrom text (memory + length bytes) rest found → GivesFrom text memory (byte_lines count bytes ++ rest) (byte_runs count memory bytes ++ found)
lines_give text zero memory [] rest found e low within give = subst (λ m. GivesFrom text m rest found) (add-zero memory) give
lines_give text zero memory (b ∷ bytes) rest found e low within give = absurd (omega arith)
lines_give text (suc count) memory bytes rest found e low within give =
    let front : List ℕ = take 16 bytes in
    let back : List ℕ = drop 16 bytes in
    let fewer : count ≡ line_count back = omega (arith, length-drop 16 bytes) in
    let whole : memory + length bytes ≡ memory + length front + length back = omega (arith, length-take 16 bytes, length-drop 16 bytes) in
    let others : GivesFrom text (memory + length front) (byte_lines count back ++ rest) (byte_runs count (memory + length front) back ++ found) =
    lines_give text count (memory + length front) back rest found fewer (omega arith) (All-drop (λ b. b < 256) 16 bytes within) (subst (λ m. GivesFrom text m rest found) whole give) in
    subst (λ source. GivesFrom text memory source ((memory, front) ∷ byte_runs count (memory + length front) back ++ found)) (sym (line_text front (byte_lines count back) rest))
    (bytes_give text memory front (byte_lines count back ++ rest) (byte_runs count (memory + length front) back ++ found) (omega (arith, length-take 16 bytes)) (omega (arith, length-take 16 bytes)) (All-take (λ b. b < 256) 16 bytes within) others)

piece_split : (piece : Piece) (rest : List ℕ) → piece_text piece ++ rest ≡ (codes ".org " ++ hex_word piece.address) ++ 10 ∷ (byte_lines (line_count piece.bytes) piece.bytes ++ rest)
unfolding piece_text
piece_split piece rest = refl

piece_gives : (text memory : ℕ) (piece : Piece) (rest : List ℕ) (found : List (ℕ × List ℕ)) → memory ≤ piece.address → end_of piece ≤ MAX_MEMORY → All (λ b. b < 256) piece.bytes →
    GivesFrom text (end_of piece) rest found → GivesFrom text memory (piece_text piece ++ rest) ((memory, []) ∷ byte_runs (line_count piece.bytes) piece.address piece.bytes ++ found)
piece_gives text memory piece rest found low high within give =
    subst (λ source. GivesFrom text memory source ((memory, []) ∷ byte_runs (line_count piece.bytes) piece.address piece.bytes ++ found)) (sym (piece_split piece rest))
    (org_gives text memory piece.address (byte_lines (line_count piece.bytes) piece.bytes ++ rest) (byte_runs (line_count piece.bytes) piece.address piece.bytes ++ found) low (omega arith)
    (lines_give text (line_count piece.bytes) piece.address piece.bytes rest found refl high within give))

nothing_gives : (number : ℕ) (b : Before) → Gives number b [] [] []
unfolding steps_from
nothing_gives number b = rw none give_none

pieces_give : (text memory least : ℕ) (pieces : List Piece) → memory ≤ least → ArePieces least pieces → All (λ piece. All (λ b. b < 256) piece.bytes) pieces →
    GivesFrom text memory (flat_map piece_text pieces) (piece_runs memory pieces)
pieces_give text memory least [] low are within = λ number runs below. nothing_gives number (before (at_data text memory) runs)
pieces_give text memory least (piece ∷ pieces) low are within =
    piece_gives text memory piece (flat_map piece_text pieces) (piece_runs (end_of piece) pieces) (omega arith) are.2 (All-head (λ p. All (λ b. b < 256) p.bytes) piece pieces within)
    (pieces_give text (end_of piece) (end_of piece + 1) pieces (omega arith) are.3 (All-tail (λ p. All (λ b. b < 256) p.bytes) piece pieces within))

-- the runs of all pieces
abbrev all_runs : List Piece → List (ℕ × List ℕ)
all_runs [] = []
all_runs (piece ∷ pieces) = piece_runs 0 (piece ∷ pieces)

data_gives : (number text : ℕ) (pieces : List Piece) → text ≤ 65536 → ArePieces 0 pieces → All (λ piece. All (λ b. b < 256) piece.bytes) pieces → Gives number (before (at_text text) []) (data_text pieces) [] (all_runs pieces)
data_gives number text [] low are within = nothing_gives number (before (at_text text) [])
data_gives number text (piece ∷ pieces) low are within =
    switch_gives number text true (codes ".data") (flat_map piece_text (piece ∷ pieces)) [] (piece_runs 0 (piece ∷ pieces)) low (data_plain (at_text text))
    (pieces_give text 0 0 (piece ∷ pieces) (omega arith) are within (number + 1) [] tt)

-- ---- words

word_split : (place word : ℕ) (others rest : List ℕ) → (text_line (4 * place) word ++ others) ++ rest ≡ word_text_of (instr_of word) (4 * place) word ++ 10 ∷ (others ++ rest)
unfolding text_line
word_split place word others rest =
    append_assoc (word_text_of (instr_of word) (4 * place) word ++ codes "\n") others rest ∙ append_assoc (word_text_of (instr_of word) (4 * place) word) (codes "\n") (others ++ rest)

words_give : (number place : ℕ) (words rest : List ℕ) (found : List (ℕ × List ℕ)) → place + length words ≤ 16384 → All (λ word. word < 2 ^ 32) words →
    ((n : ℕ) → Gives n (before (at_text (4 * (place + length words))) []) rest [] found) → Gives number (before (at_text (4 * place)) []) (text_lines place words ++ rest) words found
words_give number place [] rest found few within give =
    let same : place + 0 ≡ place = add-zero place in
    subst (λ p. Gives number (before (at_text (4 * p)) []) rest [] found) same (give number)
words_give number place (word ∷ words) rest found few within give =
    let next : 4 * place + 4 ≡ 4 * (place + 1) = omega arith in
    let count : place + length (word ∷ words) ≡ place + 1 + length words = omega arith in
    let others : Gives (number + 1) (before (at_text (4 * (place + 1))) []) (text_lines (place + 1) words ++ rest) words found =
    words_give (number + 1) (place + 1) words rest found (omega arith) (All-tail (λ w. w < 2 ^ 32) word words within)
    (λ n. subst (λ p. Gives n (before (at_text (4 * p)) []) rest [] found) count (give n)) in
    subst (λ source. Gives number (before (at_text (4 * place)) []) source (word ∷ words) found) (sym (word_split place word (text_lines (place + 1) words) rest))
    (word_gives number (4 * place) word (word_text_of (instr_of word) (4 * place) word) (text_lines (place + 1) words ++ rest) words found (omega arith)
    (text_line_of (4 * place) word (omega arith) (All-head (λ w. w < 2 ^ 32) word words within))
    (subst (λ a. Gives (number + 1) (before (at_text a) []) (text_lines (place + 1) words ++ rest) words found) (sym next) others))

-- ---- the whole

listing_gives : (image : ImageValue) → IsImage image → Give (steps_of (listing_text image)) image.text (all_runs image.pieces)
unfolding steps_of listing_text
listing_gives image is =
    let words : List ℕ = image.text in
    let count : length words ≤ MAX_TEXT_WORDS = is.text in
    let rest : (n : ℕ) → Gives n (before (at_text (4 * (0 + length words))) []) (data_text image.pieces) [] (all_runs image.pieces) =
    λ n. data_gives n (4 * (0 + length words)) image.pieces (omega arith) is.pieces is.bytes in
    let all : Gives 1 (before (at_text 0) []) (codes ".text" ++ 10 ∷ (text_lines 0 words ++ data_text image.pieces)) words (all_runs image.pieces) =
    switch_gives 1 0 false (codes ".text") (text_lines 0 words ++ data_text image.pieces) words (all_runs image.pieces) (omega arith) (text_plain (at_text 0))
    (words_give 2 0 words (data_text image.pieces) (all_runs image.pieces) (omega arith) is.words rest) in
    all

no_fault : (source words : List ℕ) (bytes : List (ℕ × List ℕ)) → Give (steps_of source) words bytes → asm_fault source ≡ None
unfolding asm_fault first_of
no_fault source words bytes give = rw give.first (rw give.names (rw give.later refl))

words_are : (source words : List ℕ) (bytes : List (ℕ × List ℕ)) → Give (steps_of source) words bytes → AllZip IsWordOf (text_of source) words
unfolding text_of
words_are source words bytes give = rw give.names give.text

bytes_are : (source words : List ℕ) (bytes : List (ℕ × List ℕ)) → Give (steps_of source) words bytes → data_of source ≡ bytes
unfolding data_of
bytes_are source words bytes give = rw give.names give.runs

runs_all : (address : ℕ) (pieces : List Piece) → byte_at (map (λ piece. (piece.address, piece.bytes)) pieces) address ≡ byte_at (all_runs pieces) address
runs_all address [] = refl
runs_all address (piece ∷ pieces) = runs_have address 0 (piece ∷ pieces)

-- the text of an image assembles to it
assembles : (image : ImageValue) → IsImage image → IsAssembled (listing_text image) image
assembles image is =
    let give : Give (steps_of (listing_text image)) image.text (all_runs image.pieces) = listing_gives image is in
    record {
      faultless = no_fault (listing_text image) image.text (all_runs image.pieces) give;
      within = is;
      text = words_are (listing_text image) image.text (all_runs image.pieces) give;
      memory = λ address. runs_all address image.pieces ∙ ap (λ runs. byte_at runs address) (sym (bytes_are (listing_text image) image.text (all_runs image.pieces) give));
    }

pub assembled : (text : List ℕ) (image : ImageValue) → text ≡ listing_text image → IsImage image → IsAssembled text image
assembled text image e is = subst (λ source. IsAssembled source image) (sym e) (assembles image is)
