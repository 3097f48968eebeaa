-- The laws of the machine.
use Rattle.std.specs.Prelude.{ℕ, ◌≤◌, length}
use Rattle.pmsi_model.specs.Job.{JobValue, IsJob}
use Rattle.pmsi_model.specs.Run.{machine_at}
use Rattle.pmsi_model.specs.Coherent.{IsCoherent}

-- the machine is coherent at every slot boundary
abbrev pub StaysCoherent : Type 0
StaysCoherent = (job : JobValue) → IsJob job → (slot : ℕ) → IsCoherent job.shape (machine_at job slot)

-- a core has at most as many lines to write back as there are cores
abbrev pub WriteBacksFit : Type 0
WriteBacksFit = (job : JobValue) → IsJob job → (slot c : ℕ) → length ((machine_at job slot).cores c).write_backs ≤ job.shape.cores
