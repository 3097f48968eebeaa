use Rattle.std.proofs.Common.{rules, ◌∙◌, ap, sym, arith}
use Rattle.arrayvec.proofs.ArrayVecLemmas.{filter-from_retain}
use Rattle.cache_ctrl.specs.States.{other_states}
use Rattle.cache_ctrl.proofs.Listed.{unlisted}
use Rattle.cache_ctrl.proofs.states.LineStates.remove.Goals as goal

pub returns-then-is_some : goal.returns-then-is_some
returns-then-is_some c = filter-from_retain _ _ _ (λ x b f y k. search rules) _ _ c.retain.ensures.filtered ∙ ap (other_states c.args.line) c.self.view_is

pub returns-else-is_some : goal.returns-else-is_some
returns-else-is_some c = sym (unlisted c.args.line c.args.self.now (grind (arith, c.requires, c.if-is_some.false, c.if-is_some.ensures)))
