use Rattle.std.proofs.Common.{ap, ◌∙◌}
use Rattle.core_unit.specs.declared.state.State.{State}
use Rattle.core_unit.specs.Changes.{state_name}
use Rattle.core_unit.proofs.Names.{name_after, name_at}
use Rattle.core_unit.proofs.unit.Core.state_name.Goals as goal

pub returns-clause-at : goal.returns-clause-at
returns-clause-at c = λ job slot k. name_at job slot k c.args.line c.args.self.now c.state_name.result
    (c.state_name.ensures ∙ ap (λ (v : State). state_name c.args.line v) c.self.view_is)

pub returns-clause-after : goal.returns-clause-after
returns-clause-after c = λ job slot k. name_after job slot k c.args.line c.args.self.now c.state_name.result
    (c.state_name.ensures ∙ ap (λ (v : State). state_name c.args.line v) c.self.view_is)
