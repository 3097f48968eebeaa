-- The text of an image is ASCII.
use Rattle.std.proofs.Common.{◌≡◌, ℕ, zero, suc, ◌+◌, ◌*◌, ◌^◌, ◌<◌, ◌≤◌, false, true, List, [], ◌∷◌, ◌++◌, length, take, drop, get_or, codes, None, IsUtf8, refl, subst, sym, arith, length-take, length-drop, All}
use Rattle.std.specs.List.{flat_map, position, position_or_len}
use Rattle.std.proofs.lemmas.List.Elements.{All-nil, All-cons, All-append, All-head, All-tail, All-take, All-drop}
use Rattle.std.proofs.lemmas.List.Sums.{fails_before_first}
use Rattle.std.proofs.lemmas.Str.{IsUtf8-from_ascii}
use Rattle.std.proofs.lemmas.Str.Ascii.{IsAscii-from_all}
use borrow.Author.Tests.{tests}
use Rattle.pmsi_model.specs.declared.limits.TheConstants.{MAX_TEXT_WORDS, MAX_MEMORY}
use Rattle.pmsi_model.specs.declared.image.Piece.{Piece}
use Rattle.pmsi_model.specs.Image.{ImageValue, IsImage, ArePieces, end_of}
use Rattle.pmsi_model.specs.Instruction.{instr_of}
use Rattle.pmsi_model.specs.Lines.{hex_word}
use Rattle.asm_parse.specs.declared.place.Place.{Place}
use Rattle.asm_operands.specs.Tokens.{is_name_byte, is_blank, is_strange, kind_of}
use Rattle.asm_operands.specs.Operands.{Lexeme}
use Rattle.asm_parse.specs.Assembly.{Statement, Switch, Emit, MoveTo}
use Rattle.asm_print.specs.ListingText.{text_of, text_line, text_lines, byte_line, byte_lines, piece_text, data_text, listing_text}
use Rattle.asm_print.proofs.Spelling.{IsRead}
use Rattle.asm_print.proofs.TextLines.{IsTextLine}
use Rattle.asm_print.proofs.InstrLines.{text_line_of}
use Rattle.asm_print.proofs.Steps.{IsPlain, at_text, at_data}
use Rattle.asm_print.proofs.DataLines.{text_plain, data_plain, org_plain, bytes_plain, bytes_line, byte_items}
use Rattle.asm_print.proofs.PieceRuns.{line_count}

abbrev AreAscii : List ℕ → Type 0
AreAscii text = All (λ b. b < 128) text

both : (xs ys : List ℕ) → AreAscii xs → AreAscii ys → AreAscii (xs ++ ys)
both xs ys first second = All-append (λ b. b < 128) xs ys first second

-- ---- lines

known_byte : (b : ℕ) → is_strange b ≡ false → b < 128
unfolding is_strange kind_of is_name_byte is_blank
known_byte b known = grind (arith, tests)

read_ascii : (line : List ℕ) (found : List Lexeme) → IsRead line found → AreAscii line
read_ascii line found read k d low =
    let none : position is_strange line ≡ None = read.plain in
    let all : length line ≤ position_or_len is_strange line = grind (arith, tests) in
    known_byte (get_or line k d) (fails_before_first is_strange line k d (omega arith))

newline : AreAscii (codes "\n")
newline = All-cons (λ b. b < 128) 10 [] (omega arith) (All-nil (λ b. b < 128))

word_ascii : (address word : ℕ) → address ≤ 65536 → word < 2 ^ 32 → AreAscii (text_line address word)
unfolding text_line
word_ascii address word near low =
    let line : IsTextLine address (text_of (instr_of word) address word) word = text_line_of address word near low in
    both (text_of (instr_of word) address word) (codes "\n") (read_ascii (text_of (instr_of word) address word) line.found line.read) newline

words_ascii : (place : ℕ) (words : List ℕ) → place + length words ≤ 16384 → All (λ word. word < 2 ^ 32) words → AreAscii (text_lines place words)
words_ascii place [] few within = All-nil (λ b. b < 128)
words_ascii place (word ∷ words) few within =
    both (text_line (4 * place) word) (text_lines (place + 1) words)
    (word_ascii (4 * place) word (omega arith) (All-head (λ w. w < 2 ^ 32) word words within))
    (words_ascii (place + 1) words (omega arith) (All-tail (λ w. w < 2 ^ 32) word words within))

plain_ascii : (line : List ℕ) (place : Place) (does : Statement) → IsPlain line place does → AreAscii (line ++ codes "\n")
plain_ascii line place does plain = both line (codes "\n") (read_ascii line plain.found plain.read) newline

-- ---- pieces

bytes_ascii : (bytes : List ℕ) → 0 < length bytes → All (λ b. b < 256) bytes → AreAscii (byte_line bytes)
unfolding byte_line
bytes_ascii bytes some within = plain_ascii (bytes_line bytes) (at_data 0 0) (Emit (byte_items 7 bytes)) (bytes_plain 0 0 bytes some within)

lines_ascii : (count : ℕ) (bytes : List ℕ) → count ≡ line_count bytes → All (λ b. b < 256) bytes → AreAscii (byte_lines count bytes)
lines_ascii zero bytes e within = All-nil (λ b. b < 128)
lines_ascii (suc count) bytes e within =
    both (byte_line (take 16 bytes)) (byte_lines count (drop 16 bytes))
    (bytes_ascii (take 16 bytes) (omega (arith, length-take 16 bytes)) (All-take (λ b. b < 256) 16 bytes within))
    (lines_ascii count (drop 16 bytes) (omega (arith, length-drop 16 bytes)) (All-drop (λ b. b < 256) 16 bytes within))

piece_ascii : (piece : Piece) → end_of piece ≤ MAX_MEMORY → All (λ b. b < 256) piece.bytes → AreAscii (piece_text piece)
unfolding piece_text
piece_ascii piece high within =
    both ((codes ".org " ++ hex_word piece.address) ++ codes "\n") (byte_lines (line_count piece.bytes) piece.bytes)
    (plain_ascii (codes ".org " ++ hex_word piece.address) (at_data 0 0) (MoveTo piece.address) (org_plain 0 0 piece.address (omega arith)))
    (lines_ascii (line_count piece.bytes) piece.bytes refl within)

pieces_ascii : (least : ℕ) (pieces : List Piece) → ArePieces least pieces → All (λ piece. All (λ b. b < 256) piece.bytes) pieces → AreAscii (flat_map piece_text pieces)
pieces_ascii least [] are within = All-nil (λ b. b < 128)
pieces_ascii least (piece ∷ pieces) are within =
    both (piece_text piece) (flat_map piece_text pieces)
    (piece_ascii piece are.2 (All-head (λ p. All (λ b. b < 256) p.bytes) piece pieces within))
    (pieces_ascii (end_of piece + 1) pieces are.3 (All-tail (λ p. All (λ b. b < 256) p.bytes) piece pieces within))

data_ascii : (pieces : List Piece) → ArePieces 0 pieces → All (λ piece. All (λ b. b < 256) piece.bytes) pieces → AreAscii (data_text pieces)
data_ascii [] are within = All-nil (λ b. b < 128)
data_ascii (piece ∷ pieces) are within =
    both (codes ".data\n") (flat_map piece_text (piece ∷ pieces)) (plain_ascii (codes ".data") (at_text 0) (Switch true) (data_plain (at_text 0))) (pieces_ascii 0 (piece ∷ pieces) are within)

-- ---- the whole

listing_ascii : (image : ImageValue) → IsImage image → AreAscii (listing_text image)
unfolding listing_text
listing_ascii image is =
    let few : length image.text ≤ MAX_TEXT_WORDS = is.text in
    both (codes ".text\n") (text_lines 0 image.text ++ data_text image.pieces) (plain_ascii (codes ".text") (at_text 0) (Switch false) (text_plain (at_text 0)))
    (both (text_lines 0 image.text) (data_text image.pieces) (words_ascii 0 image.text (omega arith) is.words) (data_ascii image.pieces is.pieces is.bytes))

pub listing_utf8 : (text : List ℕ) (image : ImageValue) → text ≡ listing_text image → IsImage image → IsUtf8 text
listing_utf8 text image e is = subst IsUtf8 (sym e) (IsUtf8-from_ascii (listing_text image) (IsAscii-from_all (listing_text image) (listing_ascii image is)))
