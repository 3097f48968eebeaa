use Rattle.std.proofs.Common.{◌≡◌, [], rules}
use Rattle.asm_parse.specs.Items.{statement_of}
use Rattle.asm_parse.specs.Assembly.{items_of}
use Rattle.asm_link.specs.Values.{held}
use Rattle.asm_link.proofs.Emitted.{on_ok, numbers_fit, numbers_appended, nothing_appended}
use Rattle.asm_link.proofs.emit.push_text.Goals as goal

pub push_numbers-requires : goal.push_numbers-requires
push_numbers-requires c = rw c.deref.ensures.value (numbers_fit (held c.args.names.now) c.in-Numbers.width c.args.step.now.address c.in-Numbers.numbers.items (rw c.in-Numbers.is at c.requires.faultless))

pub returns-in-Numbers : goal.returns-in-Numbers
returns-in-Numbers c =
    rw c.in-Numbers.is (on_ok c.push_numbers.result (λ same. numbers_appended (held c.args.names.now) c.in-Numbers.width c.args.step.now.address c.in-Numbers.numbers.items _ _ same) (rw c.deref.ensures.value at c.push_numbers.ensures))

pub returns-in_default : goal.returns-in_default
returns-in_default c =
    let none : items_of (statement_of c.args.step.now.does) ≡ [] = search rules in
    rw none (nothing_appended (held c.args.names.now) c.args.step.now.address c.args.words.now.items)
