use Rattle.std.proofs.Common.{◌≡◌, ℕ, ◌++◌}
use Rattle.std.specs.List.{flat_map}
use Rattle.pmsi_model.specs.Job.{JobValue}
use Rattle.pmsi_model.specs.Lines.{open_row_line}
use Rattle.pmsi_model.specs.Rows.{open_rows_in}
use Rattle.pmsi_model.specs.Run.{machine_at}
use Rattle.sim_serial.specs.Sims.{IsSimOf}
use Rattle.listing.proofs.sections.push_open_rows.Given as goal

abbrev pub invariant-loop-c : goal.invariant-loop-c
invariant-loop-c l = (job : JobValue) (slot : ℕ) → IsSimOf job slot l.sim → l.out.items ≡ l.fn.out.items ++ flat_map (open_row_line slot) (open_rows_in (machine_at job slot) l.c)
