use Rattle.std.proofs.Common.{◌≡◌, ℕ}
use Rattle.pmsi_model.specs.declared.Keep.{Keep}
use Rattle.pmsi_model.specs.Job.{JobValue}
use Rattle.sim_serial.specs.Sims.{IsSimOf, Keeps, slot_of, shape_of}
use Rattle.sim_serial.proofs.sim.Sim.run.Given as goal

abbrev pub invariant-loop-slot : goal.invariant-loop-slot
invariant-loop-slot l = record {
  now : slot_of l.self ≡ l._slot;
  shape : shape_of l.self ≡ shape_of l.fn.self;
  machine : (job : JobValue) (slot : ℕ) → IsSimOf job slot l.fn.self → IsSimOf job l._slot l.self;
  keeps : (keep : Keep) → Keeps keep l.fn.self → Keeps keep l.self;
}
