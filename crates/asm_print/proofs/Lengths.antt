-- The text of an image is at most as long as a file may be.
use Rattle.std.proofs.Common.{◌≡◌, Bool, Option, ℕ, zero, suc, ◌+◌, ◌*◌, ◌^◌, ◌<◌, ◌≤◌, true, List, [], ◌∷◌, ◌++◌, map, length, take, drop, codes, Some, None, refl, subst, sym, arith, length-take, length-drop, length-append, All}
use Rattle.std.specs.Prelude.{ℤ, pos, ◌+ℤ◌, decimal}
use Rattle.std.specs.Fmt.{signed_decimal}
use Rattle.std.specs.List.{flat_map}
use Rattle.std.proofs.lemmas.Fmt.{length-decimal-le, length_signed_le}
use Rattle.std.proofs.lemmas.Int.{ints}
use Rattle.std.proofs.lemmas.List.Elements.{All-head, All-tail}
use borrow.Author.Tests.{tests}
use Rattle.pmsi_model.specs.declared.limits.TheConstants.{MAX_TEXT_WORDS, MAX_MEMORY, MAX_FILE_BYTES}
use Rattle.pmsi_model.specs.declared.image.Piece.{Piece}
use Rattle.pmsi_model.specs.declared.instr.Instr.{Instr}
use Rattle.pmsi_model.specs.declared.instr.Instr.TheVariants.{Lui, Auipc, Jal, Jalr, Branch, Load, Store, OpImm, Op, Amo, Fence, Ecall, Ebreak}
use Rattle.pmsi_model.specs.declared.instr.BranchOp.{BranchOp}
use Rattle.pmsi_model.specs.declared.instr.LoadOp.{LoadOp}
use Rattle.pmsi_model.specs.declared.instr.StoreOp.{StoreOp}
use Rattle.pmsi_model.specs.declared.instr.ImmOp.{ImmOp}
use Rattle.pmsi_model.specs.declared.instr.RegOp.{RegOp}
use Rattle.pmsi_model.specs.declared.instr.AmoOp.{AmoOp}
use Rattle.pmsi_model.specs.Image.{ImageValue, IsImage, ArePieces, end_of}
use Rattle.pmsi_model.specs.Instruction.{instr_of}
use Rattle.pmsi_model.proofs.Encodings.{reads_one_way}
use Rattle.rv_decode.specs.Ranges.{IsSigned, IsInRange}
use Rattle.rv_decode.proofs.Exports.{encoding_back}
use Rattle.asm_operands.specs.Numbers.{is_number}
use Rattle.asm_print.specs.InstrText.{spelled, word_text, target_text, fence_text, instr_text}
use Rattle.asm_print.specs.ListingText.{text_of, text_line, text_lines, byte_text, byte_line, byte_lines, piece_text, data_text, listing_text}
use Rattle.asm_print.specs.Names.{branch_name, load_name, store_name, imm_name, op_name, amo_name, ordering_suffix}
use Rattle.asm_print.specs.Operands.{register_text, offset_text, direct_text}
use Rattle.asm_print.proofs.PieceRuns.{line_count}
use Rattle.asm_print.proofs.TextLines.{imm_named}
use Rattle.asm_print.proofs.Ranges.{imm_12_number, natural_number, target_20, target_12}

-- ---- names and operands

branch_short : (op : BranchOp) → length (branch_name op) ≤ 14
branch_short op = grind arith

load_short : (op : LoadOp) → length (load_name op) ≤ 14
load_short op = grind arith

store_short : (op : StoreOp) → length (store_name op) ≤ 14
store_short op = grind arith

imm_short : (op : ImmOp) → length (imm_name op) ≤ 14
imm_short op = grind arith

op_short : (op : RegOp) → length (op_name op) ≤ 14
op_short op = grind arith

amo_short : (op : AmoOp) (aq rl : Bool) → length (amo_name op ++ ordering_suffix aq rl) ≤ 14
amo_short op aq rl = grind arith

register_short : (r : ℕ) → r < 32 → length (register_text r) ≤ 3
register_short r low = omega (arith, length-decimal-le 2 r)

number_short : (z : ℤ) → is_number z ≡ true → length (signed_decimal z) ≤ 11
number_short z is = length_signed_le 10 z (grind (arith, ints, tests)) (grind (arith, ints, tests))

direct_short : (r : ℕ) → r < 32 → length (direct_text r) ≤ 5
direct_short r low = omega (arith, register_short r low, length-append (register_text r) (codes ")"))

two_short : (name first last : List ℕ) → length name ≤ 14 → length first ≤ 3 → length last ≤ 16 → length (spelled name (first ∷ last ∷ [])) ≤ 64
two_short name first last short short' short'' = grind (arith, length-append)

three_short : (name first second last : List ℕ) → length name ≤ 14 → length first ≤ 3 → length second ≤ 3 → length last ≤ 16 → length (spelled name (first ∷ second ∷ last ∷ [])) ≤ 64
three_short name first second last short short' short'' short''' = grind (arith, length-append)

-- ---- words

upper_short : (name : List ℕ) (rd imm : ℕ) → length name ≤ 14 → rd < 32 → imm < 2 ^ 20 → length (spelled name (register_text rd ∷ decimal imm ∷ [])) ≤ 64
upper_short name rd imm short low within = two_short name (register_text rd) (decimal imm) short (register_short rd low) (omega (arith, number_short (pos imm) (natural_number imm (omega arith))))

memory_short : (name : List ℕ) (r base : ℕ) (z : ℤ) → length name ≤ 14 → r < 32 → base < 32 → IsSigned 12 z → length (spelled name (register_text r ∷ offset_text z base ∷ [])) ≤ 64
memory_short name r base z short low low' in_range =
    two_short name (register_text r) (offset_text z base) short (register_short r low)
    (omega (arith, length-append (signed_decimal z) (direct_text base), number_short z (imm_12_number z in_range), direct_short base low'))

word_short : (word : ℕ) → length (word_text word) ≤ 64
word_short word = omega arith

fence_short : (word : ℕ) → length (fence_text word) ≤ 64
fence_short word = grind (arith, tests)

instr_short : (pc : ℕ) (instr : Instr) → pc ≤ 65536 → IsInRange instr → length (instr_text instr pc) ≤ 64
unfolding instr_text
instr_short pc (Lui rd imm) near in_range = upper_short (codes "lui") rd imm (omega arith) in_range.0 in_range.1
instr_short pc (Auipc rd imm) near in_range = upper_short (codes "auipc") rd imm (omega arith) in_range.0 in_range.1
instr_short pc (Jal rd z) near in_range =
    two_short (codes "jal") (register_text rd) (target_text pc z) (omega arith) (register_short rd in_range.0) (omega (arith, number_short (pos pc +ℤ z) (target_20 pc z near in_range.1)))
instr_short pc (Jalr rd rs1 z) near in_range = memory_short (codes "jalr") rd rs1 z (omega arith) in_range.0 in_range.1 in_range.2
instr_short pc (Branch op rs1 rs2 z) near in_range =
    three_short (branch_name op) (register_text rs1) (register_text rs2) (target_text pc z) (branch_short op) (register_short rs1 in_range.0) (register_short rs2 in_range.1) (omega (arith, number_short (pos pc +ℤ z) (target_12 pc z near in_range.2)))
instr_short pc (Load op rd rs1 z) near in_range = memory_short (load_name op) rd rs1 z (load_short op) in_range.0 in_range.1 in_range.2
instr_short pc (Store op rs1 rs2 z) near in_range = memory_short (store_name op) rs2 rs1 z (store_short op) in_range.1 in_range.0 in_range.2
instr_short pc (OpImm op rd rs1 z) near in_range =
    three_short (imm_name op) (register_text rd) (register_text rs1) (signed_decimal z) (imm_short op) (register_short rd in_range.0) (register_short rs1 in_range.1) (omega (arith, number_short z (imm_named op z in_range.2).number))
instr_short pc (Op op rd rs1 rs2) near in_range =
    three_short (op_name op) (register_text rd) (register_text rs1) (register_text rs2) (op_short op) (register_short rd in_range.0) (register_short rs1 in_range.1) (omega (arith, register_short rs2 in_range.2))
instr_short pc (Amo op rd rs1 rs2 aq rl) near in_range =
    three_short (amo_name op ++ ordering_suffix aq rl) (register_text rd) (register_text rs2) (direct_text rs1) (amo_short op aq rl) (register_short rd in_range.0) (register_short rs2 in_range.2) (omega (arith, direct_short rs1 in_range.1))
instr_short pc (Fence word) near in_range = fence_short word
instr_short pc Ecall near in_range = omega arith
instr_short pc Ebreak near in_range = omega arith

text_short : (pc word : ℕ) (found : Option Instr) → instr_of word ≡ found → pc ≤ 65536 → word < 2 ^ 32 → length (text_of found pc word) ≤ 64
text_short pc word None e near low = word_short word
text_short pc word (Some instr) e near low = instr_short pc instr near (encoding_back word instr ((reads_one_way word instr low).1 e)).in_range

line_short : (pc word : ℕ) → pc ≤ 65536 → word < 2 ^ 32 → length (text_line pc word) ≤ 65
unfolding text_line
line_short pc word near low = omega (arith, length-append (text_of (instr_of word) pc word) (codes "\n"), text_short pc word (instr_of word) refl near low)

words_short : (place : ℕ) (words : List ℕ) → place + length words ≤ 16384 → All (λ word. word < 2 ^ 32) words → length (text_lines place words) ≤ 65 * length words
words_short place [] few within = omega arith
words_short place (word ∷ words) few within =
    let first : length (text_line (4 * place) word) ≤ 65 = line_short (4 * place) word (omega arith) (All-head (λ w. w < 2 ^ 32) word words within) in
    let others : length (text_lines (place + 1) words) ≤ 65 * length words = words_short (place + 1) words (omega arith) (All-tail (λ w. w < 2 ^ 32) word words within) in
    omega (arith, length-append (text_line (4 * place) word) (text_lines (place + 1) words))

-- ---- pieces

more_length : (bytes : List ℕ) → length (flat_map (λ other. codes ", " ++ other) (map byte_text bytes)) ≡ 6 * length bytes
more_length [] = refl
more_length (byte ∷ bytes) = omega (arith, more_length bytes)

byte_line_length : (bytes : List ℕ) → 0 < length bytes → length (byte_line bytes) ≡ 6 * length bytes + 5
unfolding byte_line
byte_line_length [] some = absurd (omega arith)
byte_line_length (byte ∷ bytes) some =
    omega (arith, length-append (flat_map (λ other. codes ", " ++ other) (map byte_text bytes)) (codes "\n"), more_length bytes)

byte_lines_length : (count : ℕ) (bytes : List ℕ) → count ≡ line_count bytes → length (byte_lines count bytes) ≡ 6 * length bytes + 5 * count
byte_lines_length zero bytes e = omega arith
byte_lines_length (suc count) bytes e =
    let first : length (byte_line (take 16 bytes)) ≡ 6 * length (take 16 bytes) + 5 = byte_line_length (take 16 bytes) (omega (arith, length-take 16 bytes)) in
    let others : length (byte_lines count (drop 16 bytes)) ≡ 6 * length (drop 16 bytes) + 5 * count = byte_lines_length count (drop 16 bytes) (omega (arith, length-drop 16 bytes)) in
    omega (arith, length-take 16 bytes, length-drop 16 bytes, length-append (byte_line (take 16 bytes)) (byte_lines count (drop 16 bytes)))

-- twice the text of a piece is at most 27 bytes for each of its bytes and for one byte of the gap behind it
piece_short : (piece : Piece) → 0 < length piece.bytes → 2 * length (piece_text piece) ≤ 27 * (length piece.bytes + 1)
unfolding piece_text
piece_short piece some = omega (arith, byte_lines_length (line_count piece.bytes) piece.bytes refl)

pieces_short : (least : ℕ) (pieces : List Piece) → least ≤ MAX_MEMORY + 1 → ArePieces least pieces → 2 * length (flat_map piece_text pieces) + 27 * least ≤ 27 * (MAX_MEMORY + 1)
pieces_short least [] low are = omega arith
pieces_short least (piece ∷ pieces) low are =
    let from : least ≤ piece.address = are.0 in
    let first : 2 * length (piece_text piece) ≤ 27 * (length piece.bytes + 1) = piece_short piece are.1 in
    let end : end_of piece ≤ MAX_MEMORY = are.2 in
    let others : 2 * length (flat_map piece_text pieces) + 27 * (end_of piece + 1) ≤ 27 * (MAX_MEMORY + 1) = pieces_short (end_of piece + 1) pieces (omega arith) are.3 in
    omega (arith, length-append (piece_text piece) (flat_map piece_text pieces))

data_short : (pieces : List Piece) → ArePieces 0 pieces → 2 * length (data_text pieces) ≤ 12 + 27 * (MAX_MEMORY + 1)
data_short [] are = omega arith
data_short (piece ∷ pieces) are = omega (arith, pieces_short 0 (piece ∷ pieces) (omega arith) are)

-- ---- the whole

listing_length : (image : ImageValue) → IsImage image → length (listing_text image) ≤ MAX_FILE_BYTES
unfolding listing_text
listing_length image is =
    let few : length image.text ≤ MAX_TEXT_WORDS = is.text in
    let words : length (text_lines 0 image.text) ≤ 65 * length image.text = words_short 0 image.text (omega arith) is.words in
    let pieces : 2 * length (data_text image.pieces) ≤ 12 + 27 * (MAX_MEMORY + 1) = data_short image.pieces is.pieces in
    omega (arith, length-append (text_lines 0 image.text) (data_text image.pieces))

pub listing_short : (text : List ℕ) (image : ImageValue) → text ≡ listing_text image → IsImage image → length text ≤ MAX_FILE_BYTES
listing_short text image e is = subst (λ t. length t ≤ MAX_FILE_BYTES) (sym e) (listing_length image is)
