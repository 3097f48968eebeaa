use Rattle.std.proofs.Common.{◌≡◌, subst, OnOk, List, ℕ}
use Rattle.debugger.proofs.Lines.{word_parts}
use Rattle.debugger.proofs.printing.push_word_line.Goals as goal

pub returns : goal.returns
returns c =
    let P : List ℕ → Type 0 = λ x. OnOk c.push_newline.result (c.push_newline.new.out.items ≡ x) in
    subst P (word_parts _ c.args.address c.args.word _ _ c.in_ok-push_hex_field.ensures c.in_ok-push_hex_field-2.ensures) c.push_newline.ensures
