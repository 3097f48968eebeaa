use Rattle.std.proofs.Common.{arith}
use Rattle.asm_parse.specs.Items.{number_of}
use Rattle.asm_link.proofs.Laying.{size_of_items}
use Rattle.asm_link.proofs.layout.size_of.Goals as goal

pub returns-in-Numbers : goal.returns-in-Numbers
returns-in-Numbers c =
    rw c.in-Numbers.is (grind (arith, c.bytes.ensures, c.from.ensures, c.len.ensures, size_of_items c.bytes.result (number_of c.in-Numbers.width) c.in-Numbers.numbers.items))
