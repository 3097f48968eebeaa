use Rattle.std.proofs.Common.{◌≡◌, subst, OnOk, List, ℕ}
use Rattle.asm_print.proofs.GrownTexts.{piece_parts}
use Rattle.asm_print.proofs.image_text.push_piece.Goals as goal

pub returns : goal.returns
returns c =
    let P : List ℕ → Type 0 = λ x. OnOk c.push_byte_lines.result (c.push_byte_lines.new.out.items ≡ x) in
    subst P (piece_parts _ _ _ _ _ c.args.piece.now c.as_slice.ensures c.in_ok-push_text.ensures c.in_ok-push_hex.ensures c.in_ok-push_newline.ensures) c.push_byte_lines.ensures
