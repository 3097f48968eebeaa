use Rattle.std.proofs.Common.{◌≡◌, ℕ, ◌++◌}
use Rattle.pmsi_model.specs.Job.{JobValue}
use Rattle.pmsi_model.specs.Listing.{waits_texts}
use Rattle.pmsi_model.specs.Rows.{rows_of}
use Rattle.sim_serial.specs.Sims.{IsSimOf}
use Rattle.listing.proofs.sections.push_waits_lines.Given as goal

abbrev pub invariant-loop-c : goal.invariant-loop-c
invariant-loop-c l = (job : JobValue) (slot : ℕ) → IsSimOf job slot l.sim → l.out.items ≡ l.fn.out.items ++ waits_texts (rows_of job slot) l.c
