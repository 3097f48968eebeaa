use Rattle.std.proofs.Common.{List, ℕ, ◌∙◌, sym, subst}
use Rattle.pmsi_model.specs.Shared.{CanWriteBack}
use Rattle.cache_ctrl.specs.declared.Event.TheVariants.{OwnBack}
use Rattle.cache_array.specs.Cache.{Holds}
use Rattle.pend_buffers.specs.Pending.{PendingValue}
use Rattle.core_unit.specs.declared.state.State.{State}
use Rattle.core_unit.specs.Changes.{CanChange}
use Rattle.core_unit.proofs.States.{kept_held, popped_is}
use Rattle.core_unit.proofs.state.State.write_back.Goals as goal

pub back-requires-clause-can : goal.back-requires-clause-can
back-requires-clause-can g c = subst (λ (words : List ℕ). CanWriteBack c.args.self.now.number c.pop-line.result words (g.P.BusPort.side c.args.bus.now).memory) (sym (c.as_slice.ensures.value ∙ c.copy_line.ensures))
    (c.requires.first c.pop-line.result c.pop-line.new.self.write_backs c.pop-line.ensures.line).can

pub copy_line-requires : goal.copy_line-requires
copy_line-requires g c = (c.requires.first c.pop-line.result c.pop-line.new.self.write_backs c.pop-line.ensures.line).held

pub change-requires : goal.change-requires
change-requires g c = subst (λ (p : PendingValue). CanChange OwnBack c.pop-line.result (record c.args.self.now { pending = p }))
    (popped_is c.args.self.now c.pop-line.new.self c.pop-line.ensures.after)
    (c.requires.first c.pop-line.result c.pop-line.new.self.write_backs c.pop-line.ensures.line).changes

pub set_mode-requires : goal.set_mode-requires
set_mode-requires g c = subst (λ (v : State). Holds c.pop-line.result v.cache.lines) (sym c.change.ensures.after)
    (kept_held c.pop-line.result c.args.self.now (sym c.keeps-keep.ensures ∙ c.if-keep.true)
    (c.requires.first c.pop-line.result c.pop-line.new.self.write_backs c.pop-line.ensures.line).held)
