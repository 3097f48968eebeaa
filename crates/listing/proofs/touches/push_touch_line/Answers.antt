use Rattle.std.proofs.Common.{◌≡◌, ℕ, List, OnOk, subst}
use Rattle.listing.proofs.Texts.{touch_parts}
use Rattle.listing.proofs.touches.push_touch_line.Goals as goal

pub returns : goal.returns
returns c =
    let P : List ℕ → Type 0 = λ x. OnOk c.push_newline.result (c.push_newline.new.out.items ≡ x) in
    subst P (touch_parts _ c.args.touch.now _ _ _ _ _ _ _ _ _ _ _ _ c.from.ensures c.from-2.ensures c.from-3.ensures c.kind_name.ensures c.in_ok-push_field.ensures c.in_ok-push_field-2.ensures c.in_ok-push_text.ensures c.in_ok-push_text-2.ensures
    c.in_ok-push_field-3.ensures c.in_ok-push_hex_field.ensures c.in_ok-push_hex_field-2.ensures c.in_ok-push_hex_field-3.ensures) c.push_newline.ensures
