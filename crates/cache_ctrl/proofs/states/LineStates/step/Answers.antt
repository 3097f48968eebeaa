use Rattle.std.proofs.Common.{◌∙◌, refl}
use Rattle.cache_ctrl.proofs.Listed.{state_found}
use Rattle.cache_ctrl.proofs.states.LineStates.step.Goals as goal

pub next-state-requires : goal.next-state-requires
next-state-requires c = rw c.unwrap_or.ensures rw c.state_in-listed.ensures rw c.as_slice.ensures.value rw c.self.view_is rw c.stable.ensures
    rw (state_found c.args.line c.args.mode c.args.self.now) c.requires.comes

pub remove-requires : goal.remove-requires
remove-requires c = c.state_in-listed.ensures ∙ rw c.as_slice.ensures.value rw c.self.view_is refl

pub returns-clause-entry : goal.returns-clause-entry
returns-clause-entry c = rw (← state_found c.args.line c.args.mode c.args.self.now) rw (← c.stable.ensures) rw (← c.self.view_is) rw (← c.as_slice.ensures.value)
    rw (← c.state_in-listed.ensures) rw (← c.unwrap_or.ensures) c.next-state.ensures
