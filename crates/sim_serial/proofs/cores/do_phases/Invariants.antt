use Rattle.std.proofs.Common.{ℕ, ◌<◌, Bool}
use Rattle.pmsi_model.specs.Job.{JobValue}
use Rattle.sim_serial.specs.Cores.{AreParts, AreInPhases, CoresKeep}
use Rattle.sim_serial.proofs.cores.do_phases.Given as goal

abbrev pub invariant-loop-c : goal.invariant-loop-c
invariant-loop-c l = record {
  machine : (job : JobValue) (slot : ℕ) → slot < job.shape.slots → AreParts job slot l.fn.cores → AreInPhases job slot l.c l.cores;
  keeps : (keeps : Bool) → CoresKeep keeps l.fn.cores → CoresKeep keeps l.cores;
}
