-- Texts that grow at the end.
use Rattle.std.proofs.Common.{◌≡◌, ℕ, suc, ◌+◌, ◌-◌, ◌*◌, ◌/◌, ◌<◌, min, List, [], ◌∷◌, ◌++◌, length, map, take, drop, get_or, codes, refl, sym, ap, ◌∙◌, subst, append_assoc, arith}
use Rattle.std.specs.List.{flat_map}
use Rattle.std.proofs.lemmas.List.{take_all, take_min, drop_min, length-drop}
use Rattle.asm_print.specs.ListingText.{text_line, text_lines, byte_text, byte_line, byte_lines, piece_text}
use Rattle.pmsi_model.specs.declared.image.Piece.{Piece}
use Rattle.pmsi_model.specs.Lines.{hex_word}
use Rattle.text_out.proofs.Exports.{IsByPlaces, further}

by_addresses : IsByPlaces text_lines (λ place word. text_line (4 * place) word)
by_addresses = record { none = λ place. refl; more = λ place word words. refl }

-- the lines of the words below place k, and then that of word k
pub lines_further : (start before after words : List ℕ) (k : ℕ) → k < length words → before ≡ start ++ text_lines 0 (take k words) → after ≡ before ++ text_line (4 * k) (get_or words k 0) →
    after ≡ start ++ text_lines 0 (take (k + 1) words)
lines_further = further text_lines (λ place word. text_line (4 * place) word) by_addresses

-- ---- lines of bytes

abbrev next_text : ℕ → List ℕ
next_text byte = codes ", " ++ byte_text byte

mapped : (bytes : List ℕ) → flat_map (λ other. codes ", " ++ other) (map byte_text bytes) ≡ flat_map next_text bytes
mapped [] = refl
mapped (byte ∷ bytes) = ap (λ text. next_text byte ++ text) (mapped bytes)

four : (old a b d e one two three : List ℕ) → one ≡ old ++ a → two ≡ one ++ b → three ≡ two ++ d → three ++ e ≡ old ++ (a ++ (b ++ d) ++ e)
four old a b d e one two three f g h = grind (arith, append_assoc)

pub byte_line_parts : (old bytes one two three : List ℕ) → 0 < length bytes → one ≡ old ++ codes ".byte " → two ≡ one ++ byte_text (get_or bytes 0 0) →
    three ≡ two ++ flat_map (λ byte. codes ", " ++ byte_text byte) (take (length bytes - 1) (drop 1 bytes)) →
    three ++ codes "\n" ≡ old ++ byte_line bytes
unfolding byte_line
byte_line_parts old [] one two three some f g h = absurd (omega arith)
byte_line_parts old (byte ∷ bytes) one two three some f g h =
    let all : take (length (byte ∷ bytes) - 1) bytes ≡ bytes = take_all _ bytes (omega arith) in
    let P : List ℕ → Type 0 = λ text. three ++ codes "\n" ≡ old ++ (codes ".byte " ++ (byte_text byte ++ text) ++ codes "\n") in
    subst P (sym (mapped bytes)) (four old (codes ".byte ") (byte_text byte) (flat_map next_text bytes) (codes "\n") one two three f g (h ∙ ap (λ others. two ++ flat_map next_text others) all))

pieced : (old a b d e one two three : List ℕ) → one ≡ old ++ a → two ≡ one ++ b → three ≡ two ++ d → three ++ e ≡ old ++ (a ++ b ++ d ++ e)
pieced old a b d e one two three f g h = grind (arith, append_assoc)

-- bytes are the first line, and the lines of the others
first_line : (bytes : List ℕ) → 0 < length bytes → byte_lines ((length bytes + 15) / 16) bytes ≡ byte_line (take 16 bytes) ++ byte_lines ((length (drop 16 bytes) + 15) / 16) (drop 16 bytes)
first_line bytes some =
    let count : (length bytes + 15) / 16 ≡ suc ((length (drop 16 bytes) + 15) / 16) = rw (length-drop 16 bytes) (omega arith) in
    ap (λ (n : ℕ). byte_lines n bytes) count

pub byte_lines_further : (before after total bytes line others : List ℕ) (k : ℕ) → 0 < length bytes → k ≡ min 16 (length bytes) → line ≡ take k bytes → others ≡ drop k bytes →
    before ++ byte_lines ((length bytes + 15) / 16) bytes ≡ total → after ≡ before ++ byte_line line →
    after ++ byte_lines ((length others + 15) / 16) others ≡ total
byte_lines_further before after total bytes line others k some count front back h g =
    let first : line ≡ take 16 bytes = front ∙ ap (λ n. take n bytes) count ∙ take_min 16 bytes in
    let rest : others ≡ drop 16 bytes = back ∙ ap (λ n. drop n bytes) count ∙ drop_min 16 bytes in
    rw (g, first, rest)
    (append_assoc before (byte_line (take 16 bytes)) (byte_lines ((length (drop 16 bytes) + 15) / 16) (drop 16 bytes)) ∙ ap (λ text. before ++ text) (sym (first_line bytes some)) ∙ h)

-- ---- pieces

-- the parts of a piece's text
pub piece_parts : (old one two three bytes : List ℕ) (piece : Piece) → bytes ≡ piece.bytes → one ≡ old ++ codes ".org " → two ≡ one ++ hex_word piece.address → three ≡ two ++ codes "\n" →
    three ++ byte_lines ((length bytes + 15) / 16) bytes ≡ old ++ piece_text piece
unfolding piece_text
piece_parts old one two three bytes piece same f g h =
    ap (λ other. three ++ byte_lines ((length other + 15) / 16) other) same
    ∙ pieced old (codes ".org ") (hex_word piece.address) (codes "\n") (byte_lines ((length piece.bytes + 15) / 16) piece.bytes) one two three f g h
