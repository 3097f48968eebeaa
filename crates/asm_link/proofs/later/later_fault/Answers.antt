use Rattle.std.proofs.Common.{◌≡◌, [], sym, ◌∙◌, rules}
use Rattle.asm_parse.specs.Items.{statement_of}
use Rattle.asm_parse.specs.Assembly.{items_of}
use Rattle.asm_link.specs.Values.{held}
use Rattle.asm_link.proofs.PlacedNumbers.{numbers_placed, nothing_placed}
use Rattle.asm_link.proofs.later.later_fault.Goals as goal

pub returns-in-Numbers : goal.returns-in-Numbers
returns-in-Numbers c =
    rw c.in-Numbers.is (rw (sym c.deref.ensures.value) (c.numbers_fault.ensures ∙ sym (numbers_placed (held c.args.names.now) c.in-Numbers.width c.args.step.now.address c.deref.result.now)))

pub returns-in_default : goal.returns-in_default
returns-in_default c =
    let none : items_of (statement_of c.args.step.now.does) ≡ [] = search rules in
    rw none (sym (nothing_placed (held c.args.names.now) c.args.step.now.address))
