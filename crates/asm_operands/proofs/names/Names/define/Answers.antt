use Rattle.std.proofs.Common.{◌∙◌, sym, ap}
use Rattle.asm_operands.specs.NameTable.{named}
use Rattle.asm_operands.proofs.HeldNames.{in_table, for_ok, for_err}
use Rattle.asm_operands.proofs.names.Names.define.Goals as goal

pub store-requires : goal.store-requires
store-requires c = sym (in_table c.self.inside.table c.args.name.now) ∙ ap (λ names. named names c.args.name.now) c.self.view_is ∙ c.requires

pub returns-clause-this : goal.returns-clause-this
returns-clause-this c = for_ok c.store.result (λ is. in_table c.store.new.table c.args.name.now ∙ is) c.store.ensures.this

pub returns-clause-unchanged : goal.returns-clause-unchanged
returns-clause-unchanged c =
    for_err c.store.result (λ same other. in_table c.store.new.table other ∙ same other ∙ sym (in_table c.self.inside.table other) ∙ ap (λ names. named names other) c.self.view_is)
    c.store.ensures.unchanged

pub returns-clause-others : goal.returns-clause-others
returns-clause-others c =
    for_ok c.store.result (λ same other apart. in_table c.store.new.table other ∙ same other apart ∙ sym (in_table c.self.inside.table other) ∙ ap (λ names. named names other) c.self.view_is)
    c.store.ensures.others
