-- Every read takes the latest write in bus order.
use Rattle.pmsi_model.specs.Job.{JobValue, IsJob}
use Rattle.pmsi_model.specs.Latest.{ReadsLatestWrite}

-- in the run of every job, every read takes the latest write in bus order
abbrev pub AlwaysReadsLatest : Type 0
AlwaysReadsLatest = (job : JobValue) → IsJob job → ReadsLatestWrite job
