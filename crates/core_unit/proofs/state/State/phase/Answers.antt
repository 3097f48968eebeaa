use Rattle.core_unit.proofs.Quanta.{phase_done}
use Rattle.core_unit.proofs.state.State.phase.Goals as goal

pub returns-clause-phased : goal.returns-clause-phased
returns-clause-phased c = λ job slot k more part. phase_done job slot k c.take_quantum.new.self (c.take_quantum.ensures.taken job slot k more part)
