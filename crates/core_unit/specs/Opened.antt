-- The cores of a job as they are opened.
use Rattle.std.specs.Prelude.{◌≡◌, ℕ, ◌<◌, List, length, slice_index_or}
use Rattle.pmsi_model.specs.declared.Keep.{Keep}
use Rattle.pmsi_model.specs.Job.{JobValue, IsJob}
use Rattle.core_unit.specs.declared.state.State.{State}
use Rattle.core_unit.specs.Parts.{IsPart}

-- each core is that of a job before its first slot, and keeps what it is told to
pub record AreOpened (job : JobValue) (keep : Keep) (cores : List State) : Type 0 where
  pub within : IsJob job
  pub all : length cores ≡ job.shape.cores
  pub part : (c : ℕ) (other : State) → c < job.shape.cores → IsPart job 0 c (slice_index_or cores c other)
  pub keeps : (c : ℕ) (other : State) → c < job.shape.cores → (slice_index_or cores c other).keeps ≡ keep.touches
