use Rattle.std.proofs.Common.{◌∙◌, refl}
use Rattle.cache_ctrl.proofs.Listed.{state_found}
use Rattle.cache_ctrl.proofs.states.LineStates.state.Goals as goal

pub returns : goal.returns
returns c = rw (← c.self.view_is) (rw (← state_found c.args.line c.args.mode c.self.inside.items.items) (c.unwrap_or.ensures ∙ rw c.state_in.ensures rw c.as_slice.ensures.value rw c.stable.ensures refl))
