use Rattle.std.proofs.Common.{◌≡◌, ◌^◌, ◌<◌, ◌+◌, ap, ◌∙◌, sym, subst}
use Rattle.core_unit.specs.declared.state.State.{State}
use Rattle.core_unit.specs.Snoops.{CanSnoopAction}
use Rattle.core_unit.specs.State.{snooped, stepped}
use Rattle.core_unit.proofs.SnoopsSlots.{can_snoop_action, has_next, snooped_by, snooped_core, snooped_keeps}
use Rattle.core_unit.proofs.unit.Core.snoop.Goals.{After-snoop}
use Rattle.core_unit.proofs.unit.Core.snoop.Goals as goal

pub snoop-requires-clause-can : goal.snoop-requires-clause-can
snoop-requires-clause-can c = subst (CanSnoopAction c.args.action) (sym c.self.view_is) (can_snoop_action c.args.by c.args.action c.args.self.now c.requires)

pub snoop-requires-clause-more : goal.snoop-requires-clause-more
snoop-requires-clause-more c = subst (λ (v : State). v.slot + 1 < 2 ^ 32) (sym c.self.view_is) (has_next c.args.by c.args.action c.args.self.now c.requires)

after : (c : After-snoop) → c.snoop.new.self ≡ stepped (snooped c.args.action c.args.self.now)
after c = c.snoop.ensures ∙ ap (λ (v : State). let u : State = stepped (snooped c.args.action v) in u) c.self.view_is

pub invariant_of-self : goal.invariant_of-self
invariant_of-self c = snooped_core c.args.by c.args.action c.args.self.now c.snoop.new.self (after c) c.requires

pub returns-clause-snooped : goal.returns-clause-snooped
returns-clause-snooped c = snooped_by c.args.by c.args.action c.args.self.now c.snoop.new.self (after c)

pub returns-clause-keeps : goal.returns-clause-keeps
returns-clause-keeps c = snooped_keeps c.args.action c.args.self.now c.snoop.new.self (after c)
