use Rattle.std.proofs.Common.{◌∙◌, refl, sym, subst, ◌+◌, ◌≤◌, ◌<◌}
use Rattle.pmsi_model.specs.declared.job.Geometry.{Geometry}
use Rattle.core_unit.proofs.Quanta.{begins, can_execute, takes_one, stops_early, all_taken}
use Rattle.core_unit.proofs.state.State.take_quantum.Goals as goal

pub returns-then-not-can_run-clause-taken : goal.returns-then-not-can_run-clause-taken
returns-then-not-can_run-clause-taken c = λ job slot k more part.
    stops_early job slot k 0 c.args.self.now (begins job slot k c.args.self.now more part) (sym c.can_run.ensures ∙ c.if-not-can_run.true)

pub loop-init : goal.loop-init
loop-init c = (record { phase = λ job slot k more part. begins job slot k c.args.self.now more part; keeps = refl }, sym c.can_run.ensures ∙ c.if-not-can_run.false)

pub instruction-requires-clause-ready : goal.instruction-requires-clause-ready
instruction-requires-clause-ready c = can_execute c.requires.job c.args.self.now.slot c.requires.core c.loop.counter c.loop.self
    (c.loop.invariant.0.phase c.requires.job c.args.self.now.slot c.requires.core c.requires.more c.requires.part)
    (subst (λ (g : Geometry). c.loop.counter < g.quantum) c.requires.part.in_slot.stands.carries.shape c.loop-test.true) c.loop.invariant.1

pub instruction-requires-clause-runs : goal.instruction-requires-clause-runs
instruction-requires-clause-runs c = c.loop.invariant.1

pub returns-then-not-instruction-clause-taken : goal.returns-then-not-instruction-clause-taken
returns-then-not-instruction-clause-taken c = λ job slot k more part.
    stops_early job slot k (c.loop.counter + 1) c.instruction.new.self
    (takes_one job slot k c.loop.counter c.loop.self c.instruction.new.self (c.loop.invariant.0.phase job slot k more part)
    (subst (λ (g : Geometry). c.loop.counter < g.quantum) part.in_slot.stands.carries.shape c.loop-test.true) c.loop.invariant.1 c.instruction.ensures.same c.instruction.ensures.stands c.instruction.ensures.touched)
    (sym c.instruction.ensures.goes_on ∙ c.if-not-instruction.true)

pub returns-then-not-instruction-clause-keeps : goal.returns-then-not-instruction-clause-keeps
returns-then-not-instruction-clause-keeps c = c.instruction.ensures.same.keeps ∙ c.loop.invariant.0.keeps

pub loop-preserved : goal.loop-preserved
loop-preserved c = (
  record {
    phase = λ job slot k more part. takes_one job slot k c.loop.counter c.loop.self c.instruction.new.self (c.loop.invariant.0.phase job slot k more part)
        (subst (λ (g : Geometry). c.loop.counter < g.quantum) part.in_slot.stands.carries.shape c.loop-test.true) c.loop.invariant.1 c.instruction.ensures.same c.instruction.ensures.stands c.instruction.ensures.touched;
    keeps = c.instruction.ensures.same.keeps ∙ c.loop.invariant.0.keeps;
  },
  sym c.instruction.ensures.goes_on ∙ c.if-not-instruction.false,
)

pub returns-clause-taken : goal.returns-clause-taken
returns-clause-taken c = λ job slot k more part. all_taken job slot k c.loop.counter c.loop.self (c.loop.invariant.0.phase job slot k more part)
    (subst (λ (g : Geometry). g.quantum ≤ c.loop.counter) part.in_slot.stands.carries.shape c.loop-test.false)

pub returns-clause-keeps : goal.returns-clause-keeps
returns-clause-keeps c = c.loop.invariant.0.keeps
