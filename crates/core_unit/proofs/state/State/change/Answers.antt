use Rattle.std.proofs.Common.{Option, ◌∙◌, option_map, sym, ap, arith}
use Rattle.pmsi_model.specs.declared.Mode.{Mode}
use Rattle.pmsi_model.specs.declared.State.{State as LineName}
use Rattle.cache_ctrl.specs.declared.Duty.{Duty}
use Rattle.cache_ctrl.specs.States.{state_at}
use Rattle.cache_ctrl.specs.Table.{next_of}
use Rattle.cache_ctrl.proofs.Exports.{fewer_others}
use Rattle.core_unit.proofs.States.{changed_is, duty_can, entry_for, next_is}
use Rattle.core_unit.proofs.state.State.change.Goals as goal

pub step-state-requires-clause-comes : goal.step-state-requires-clause-comes
step-state-requires-clause-comes c = λ none. c.requires.comes (next_is c.args.event c.args.line c.args.self.now
    ∙ ap (λ (m : Option Mode). next_of (state_at c.args.line m c.args.self.now.states) c.args.event) (sym c.find-mode.ensures.mode) ∙ none)

pub step-state-requires-clause-room : goal.step-state-requires-clause-room
step-state-requires-clause-room c = let fewer = fewer_others c.args.line c.args.self.now.states in let room = c.requires.room in omega arith

pub do_duty-requires : goal.do_duty-requires
do_duty-requires c = duty_can c.args.event c.args.line c.args.self.now c.step-state.new.self c.step-state.result (entry_for c.args.event c.args.line c.find-mode.result c.args.self.now c.step-state.result c.find-mode.ensures.mode c.step-state.ensures.entry) c.requires.duty

pub returns-clause-after : goal.returns-clause-after
returns-clause-after c = changed_is c.args.event c.args.line c.args.self.now c.do_duty.new.self c.step-state.new.self c.step-state.result
    (entry_for c.args.event c.args.line c.find-mode.result c.args.self.now c.step-state.result c.find-mode.ensures.mode c.step-state.ensures.entry) c.step-state.ensures.after c.do_duty.ensures

pub returns-clause-state : goal.returns-clause-state
returns-clause-state c = ap (option_map (λ (next : LineName × Duty). next.0)) (entry_for c.args.event c.args.line c.find-mode.result c.args.self.now c.step-state.result c.find-mode.ensures.mode c.step-state.ensures.entry)
