-- The parts of lines.
use Rattle.std.proofs.Common.{◌≡◌, ℕ, List, ◌++◌, codes, append_assoc, arith}
use Rattle.pmsi_model.specs.Lines.{hex_word}
use Rattle.script_text.specs.Output.{word_line}

five : (old a b c d e one two : List ℕ) → one ≡ old ++ a ++ b → two ≡ one ++ c ++ d → two ++ e ≡ old ++ (a ++ b ++ c ++ d ++ e)
five old a b c d e one two f g = grind (arith, append_assoc)

pub word_parts : (old : List ℕ) (address word : ℕ) (one two : List ℕ) → one ≡ old ++ codes "word " ++ hex_word address → two ≡ one ++ codes " " ++ hex_word word → two ++ codes "\n" ≡ old ++ word_line address word
word_parts old address word one two f g = five old (codes "word ") (hex_word address) (codes " ") (hex_word word) (codes "\n") one two f g
