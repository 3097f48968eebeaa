-- Where a line's labels end.
use Rattle.std.proofs.Common.{◌≡◌, List, [], ◌∷◌, ◌++◌, false, length, get_or, ◌<◌, ◌≤◌, arith}
use Rattle.std.proofs.lemmas.List.{append-nil}
use Rattle.asm_operands.specs.declared.lexeme.Lexeme as code
use Rattle.asm_operands.specs.Operands.{Lexeme}
use Rattle.asm_parse.specs.Assembly.{behind_labels, is_label, labels_of}
use Rattle.asm_operands.specs.Meanings.{lexeme, lexemes}

-- fewer than two tokens have no label
pub few_tokens : (xs : List code.Lexeme) (labels : List Lexeme) → length xs < 2 → (labels ++ labels_of (lexemes xs) ≡ labels) × (behind_labels (lexemes xs) ≡ lexemes xs)
unfolding labels_of behind_labels
few_tokens [] labels few = grind (arith, append-nil)
few_tokens (x ∷ []) labels few = grind (arith, append-nil)
few_tokens (x ∷ y ∷ xs) labels few = grind (arith, append-nil)

-- nor have tokens that begin otherwise
pub other_tokens : (xs : List code.Lexeme) (labels : List Lexeme) (d e : code.Lexeme) → 2 ≤ length xs → is_label (lexeme (get_or xs 0 d)) (lexeme (get_or xs 1 e)) ≡ false → (labels ++ labels_of (lexemes xs) ≡ labels) × (behind_labels (lexemes xs) ≡ lexemes xs)
unfolding labels_of behind_labels
other_tokens [] labels d e many other = grind (arith, append-nil)
other_tokens (x ∷ []) labels d e many other = grind (arith, append-nil)
other_tokens (x ∷ y ∷ xs) labels d e many other = grind (arith, append-nil)
