use Rattle.std.proofs.Common.{◌≡◌, ℕ}
use Rattle.pmsi_model.specs.Job.{JobValue}
use Rattle.sim_serial.specs.Sims.{IsSimOf, slot_of, shape_of}
use Rattle.script_text.specs.Output.{go_end}
use Rattle.debugger.proofs.moves.go.Given as goal

abbrev pub invariant-loop-slot : goal.invariant-loop-slot
invariant-loop-slot l = record {
  now : slot_of l.sim ≡ l._slot;
  shape : shape_of l.sim ≡ shape_of l.fn.sim;
  machine : (job : JobValue) (slot : ℕ) → IsSimOf job slot l.fn.sim → IsSimOf job l._slot l.sim;
  ends : (job : JobValue) (slot : ℕ) → IsSimOf job slot l.fn.sim → go_end job l.breaks slot ≡ go_end job l.breaks l._slot;
}
