use Rattle.std.proofs.Common.{◌≡◌, ℕ, List, OnOk, codes, subst, append_assoc}
use Rattle.pmsi_model.specs.Lines.{hex_word}
use Rattle.core_lines.proofs.lines.push_halt.Goals as goal

pub returns-in-Misaligned : goal.returns-in-Misaligned
returns-in-Misaligned c =
    let P : List ℕ → Type 0 = λ text. OnOk c.push_hex_field-in-Misaligned.result (c.push_hex_field-in-Misaligned.new.out.items ≡ text) in
    rw c.in-Misaligned.is (subst P (append_assoc c.args.out.now.items (codes "misaligned ") (hex_word c.in-Misaligned.address)) c.push_hex_field-in-Misaligned.ensures)

pub returns-in-Range : goal.returns-in-Range
returns-in-Range c =
    let P : List ℕ → Type 0 = λ text. OnOk c.push_hex_field-in-Range.result (c.push_hex_field-in-Range.new.out.items ≡ text) in
    rw c.in-Range.is (subst P (append_assoc c.args.out.now.items (codes "range ") (hex_word c.in-Range.address)) c.push_hex_field-in-Range.ensures)
