use Rattle.std.proofs.Common.{◌≡◌, ℕ, ◌++◌}
use Rattle.pmsi_model.specs.Job.{JobValue}
use Rattle.pmsi_model.specs.Listing.{memory_texts}
use Rattle.pmsi_model.specs.Run.{machine_at}
use Rattle.sim_serial.specs.Sims.{IsSimOf}
use Rattle.listing.proofs.sections.push_memory.Given as goal

abbrev pub invariant-loop-i : goal.invariant-loop-i
invariant-loop-i l = (job : JobValue) (slot : ℕ) → IsSimOf job slot l.sim → l.out.items ≡ l.fn.out.items ++ memory_texts (machine_at job slot).memory l.i
