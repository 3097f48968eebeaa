use Rattle.std.proofs.Common.{ℕ, Bool}
use Rattle.pmsi_model.specs.Job.{JobValue}
use Rattle.sim_serial.specs.Cores.{AreInNotes, CoresKeep}
use Rattle.sim_serial.proofs.cores.note_action.Given as goal

abbrev pub invariant-loop-c : goal.invariant-loop-c
invariant-loop-c l = record {
  machine : (job : JobValue) (slot : ℕ) → AreInNotes job slot l.owner l.action 0 l.fn.cores → AreInNotes job slot l.owner l.action l.c l.cores;
  keeps : (keeps : Bool) → CoresKeep keeps l.fn.cores → CoresKeep keeps l.cores;
}
