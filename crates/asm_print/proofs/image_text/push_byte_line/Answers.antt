use Rattle.std.proofs.Common.{◌≡◌, subst, OnOk, List, ℕ}
use Rattle.asm_print.proofs.GrownTexts.{byte_line_parts}
use Rattle.asm_print.proofs.image_text.push_byte_line.Goals as goal

pub returns : goal.returns
returns c =
    let P : List ℕ → Type 0 = λ x. OnOk c.push_newline.result (c.push_newline.new.out.items ≡ x) in
    subst P (byte_line_parts _ c.args.bytes.now _ _ _ c.requires c.in_ok-push_text.ensures c.in_ok-push_byte.ensures c.in_ok-push_next_bytes.ensures) c.push_newline.ensures
