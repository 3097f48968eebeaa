use Rattle.std.proofs.Common.{◌≡◌, subst, OnOk, List, ℕ}
use Rattle.listing.proofs.Texts.{memory_parts}
use Rattle.listing.proofs.memory.push_memory_line.Goals as goal

pub returns : goal.returns
returns c =
    let P : List ℕ → Type 0 = λ x. OnOk c.push_newline.result (c.push_newline.new.out.items ≡ x) in
    subst P (memory_parts _ c.args.address c.args.bytes.now _ _ _ c.in_ok-push_hex_field.ensures c.in_ok-push_text.ensures c.in_ok-push_hex_bytes.ensures) c.push_newline.ensures
