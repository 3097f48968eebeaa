use Rattle.std.proofs.Common.{◌≡◌, ℕ, ◌++◌}
use Rattle.pmsi_model.specs.Job.{JobValue}
use Rattle.pmsi_model.specs.Listing.{core_texts}
use Rattle.pmsi_model.specs.Run.{machine_at}
use Rattle.sim_serial.specs.Sims.{IsSimOf}
use Rattle.listing.proofs.sections.push_cores.Given as goal

abbrev pub invariant-loop-c : goal.invariant-loop-c
invariant-loop-c l = (job : JobValue) (slot : ℕ) → IsSimOf job slot l.sim → l.out.items ≡ l.fn.out.items ++ core_texts (machine_at job slot) l.c
