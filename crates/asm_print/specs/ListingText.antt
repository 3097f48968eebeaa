-- The assembly text of an image. Each line ends with a newline.
use Rattle.std.specs.Prelude.{ℕ, zero, suc, ◌+◌, ◌*◌, ◌/◌, List, [], ◌∷◌, ◌++◌, map, take, drop, length, codes, Option, Some, None}
use Rattle.std.specs.List.{flat_map}
use Rattle.pmsi_model.specs.declared.image.Piece.{Piece}
use Rattle.pmsi_model.specs.declared.instr.Instr.{Instr}
use Rattle.pmsi_model.specs.Image.{ImageValue}
use Rattle.pmsi_model.specs.Instruction.{instr_of}
use Rattle.pmsi_model.specs.Lines.{hex_digits, hex_word}
use Rattle.asm_print.specs.InstrText.{instr_text, word_text}
use Rattle.asm_print.specs.Operands.{joined}

-- ---- text

-- a word at pc: its instruction, or the word as a number where it has no row in the instruction table
abbrev pub text_of : Option Instr → ℕ → ℕ → List ℕ
text_of None pc word = word_text word
text_of (Some instr) pc word = instr_text instr pc

unfoldable pub text_line : ℕ → ℕ → List ℕ
text_line pc word = text_of (instr_of word) pc word ++ codes "\n"

-- words from a place on, counted in words: each is four bytes
abbrev pub text_lines : ℕ → List ℕ → List ℕ
text_lines place [] = []
text_lines place (word ∷ words) = text_line (4 * place) word ++ text_lines (place + 1) words

-- ---- data

-- `0x` and two digits
abbrev pub byte_text : ℕ → List ℕ
byte_text byte = codes "0x" ++ hex_digits 2 byte

unfoldable pub byte_line : List ℕ → List ℕ
byte_line bytes = codes ".byte " ++ joined (map byte_text bytes) ++ codes "\n"

-- `count` lines of sixteen bytes, the last of them of what is left
abbrev pub byte_lines : ℕ → List ℕ → List ℕ
byte_lines zero bytes = []
byte_lines (suc count) bytes = byte_line (take 16 bytes) ++ byte_lines count (drop 16 bytes)

-- the address, and as many lines as the bytes need
unfoldable pub piece_text : Piece → List ℕ
piece_text piece = codes ".org " ++ hex_word piece.address ++ codes "\n" ++ byte_lines ((length piece.bytes + 15) / 16) piece.bytes

abbrev pub data_text : List Piece → List ℕ
data_text [] = []
data_text (piece ∷ pieces) = codes ".data\n" ++ flat_map piece_text (piece ∷ pieces)

-- ---- the whole

unfoldable pub listing_text : ImageValue → List ℕ
listing_text image = codes ".text\n" ++ text_lines 0 image.text ++ data_text image.pieces
