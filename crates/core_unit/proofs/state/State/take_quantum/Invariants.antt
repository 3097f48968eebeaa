use Rattle.std.proofs.Common.{◌≡◌, true}
use Rattle.pmsi_model.specs.Phase.{can_run}
use Rattle.core_unit.specs.State.{core_of}
use Rattle.core_unit.proofs.Quanta.{IsTaking}
use Rattle.core_unit.proofs.state.State.take_quantum.Given as goal

abbrev pub invariant-loop : goal.invariant-loop
invariant-loop l = IsTaking l.fn.self l.self l.counter × (can_run (core_of l.self) ≡ true)
