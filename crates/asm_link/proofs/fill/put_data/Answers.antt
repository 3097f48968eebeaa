use Rattle.std.proofs.Common.{sym}
use Rattle.asm_link.specs.Values.{held}
use Rattle.asm_link.proofs.Emitted.{numbers_fit}
use Rattle.asm_link.proofs.Filling.{other_bytes, numbers_bytes, puts_bytes, puts_none}
use Rattle.asm_link.proofs.fill.put_data.Goals as goal

pub put_numbers-requires-clause-fit : goal.put_numbers-requires-clause-fit
put_numbers-requires-clause-fit c =
    rw c.deref.ensures.value (numbers_fit (held c.args.names.now) c.in-Numbers.width c.args.step.now.address c.in-Numbers.numbers.items (rw c.in-Numbers.is at c.requires.faultless))

pub put_numbers-requires-clause-named : goal.put_numbers-requires-clause-named
put_numbers-requires-clause-named c =
    let bytes = numbers_bytes (held c.args.names.now) c.args.step.now c.in-Numbers.width c.in-Numbers.numbers c.requires.data c.in-Numbers.is in
    rw c.deref.ensures.value (rw (sym bytes) c.requires.room.0)

pub put_numbers-requires-clause-within : goal.put_numbers-requires-clause-within
put_numbers-requires-clause-within c =
    let bytes = numbers_bytes (held c.args.names.now) c.args.step.now c.in-Numbers.width c.in-Numbers.numbers c.requires.data c.in-Numbers.is in
    rw c.deref.ensures.value (rw (sym bytes) c.requires.room.1)

pub returns-in-Numbers : goal.returns-in-Numbers
returns-in-Numbers c =
    let bytes = numbers_bytes (held c.args.names.now) c.args.step.now c.in-Numbers.width c.in-Numbers.numbers c.requires.data c.in-Numbers.is in
    puts_bytes (held c.args.names.now) c.args.step.now _ c.args.memory.now c.put_numbers.new.memory bytes (rw c.deref.ensures.value at c.put_numbers.ensures)

pub returns-in_default : goal.returns-in_default
returns-in_default c =
    puts_none (held c.args.names.now) c.args.step.now c.args.memory.now (other_bytes (held c.args.names.now) c.args.step.now c.requires.data c.requires.kept.0 c.in_default.not-Numbers)
