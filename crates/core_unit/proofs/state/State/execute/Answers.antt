use Rattle.std.proofs.Common.{◌∙◌, refl, sym, subst, IfSome}
use Rattle.pmsi_model.specs.Instruction.{HasRow}
use Rattle.core_unit.proofs.Steps.{asks_memory, same_run}
use Rattle.core_unit.proofs.Touches.{touches_memory}
use Rattle.core_unit.proofs.state.State.execute.Goals as goal

pub exec-requires : goal.exec-requires
exec-requires c = subst (λ instr. IfSome instr HasRow) c.in-Some.is c.instr.ensures.row

pub returns-in-Memory-clause-stands : goal.returns-in-Memory-clause-stands
returns-in-Memory-clause-stands c = λ job c' memory s.
    asks_memory job c' memory c.args.self.now c.access.new.self c.args.fetched c.in-Some.instr c.exec.new.regs c.in-Memory.access s (sym c.instr.ensures.value ∙ c.in-Some.is)
    c.in-Memory.ensures.effect c.in-Memory.ensures.writes (c.access.ensures.stands job c' memory)

pub returns-in-Memory-clause-touched : goal.returns-in-Memory-clause-touched
returns-in-Memory-clause-touched c = λ job c' memory s.
    touches_memory job c' memory c.args.self.now c.access.new.self c.args.fetched c.in-Some.instr c.exec.new.regs c.in-Memory.access s (sym c.instr.ensures.value ∙ c.in-Some.is)
    c.in-Memory.ensures.effect c.in-Memory.ensures.writes (c.access.ensures.touched job c' memory)

pub returns-in_default-clause-same : goal.returns-in_default-clause-same
returns-in_default-clause-same c = same_run c.args.self.now _ refl (λ l. refl)

pub returns-in-Next-clause-same : goal.returns-in-Next-clause-same
returns-in-Next-clause-same c = same_run c.args.self.now _ refl (λ l. refl)

pub returns-in-Stop-clause-same : goal.returns-in-Stop-clause-same
returns-in-Stop-clause-same c = same_run c.args.self.now _ refl (λ l. refl)
