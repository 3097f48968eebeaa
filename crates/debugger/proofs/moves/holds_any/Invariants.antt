use Rattle.std.proofs.Common.{◌≡◌, ℕ, drop}
use Rattle.pmsi_model.specs.Job.{JobValue}
use Rattle.pmsi_model.specs.Run.{machine_at}
use Rattle.sim_serial.specs.Sims.{IsSimOf}
use Rattle.script_text.specs.Output.{holds_any}
use Rattle.debugger.proofs.moves.holds_any.Given as goal

abbrev pub invariant-loop-at : goal.invariant-loop-at
invariant-loop-at l = (job : JobValue) (slot : ℕ) → IsSimOf job slot l.sim → holds_any (machine_at job slot) l.breaks ≡ holds_any (machine_at job slot) (drop l.at-index l.breaks)
