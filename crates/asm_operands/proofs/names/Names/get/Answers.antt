use Rattle.std.proofs.Common.{◌∙◌, sym, ap}
use Rattle.asm_operands.specs.NameTable.{named, stored}
use Rattle.asm_operands.proofs.HeldNames.{in_table}
use Rattle.asm_operands.proofs.names.Names.get.Goals as goal

pub returns : goal.returns
unfolding stored
returns c =
    c.copied.ensures ∙ c.get.ensures.value ∙ sym (in_table c.self.inside.table c.args.name.now) ∙ ap (λ names. named names c.args.name.now) c.self.view_is
