-- A Spread, and the job that it is of.
use Rattle.std.specs.Prelude.{◌≡◌, ℕ, ◌<◌, true, List, length, slice_index_or}
use Rattle.pmsi_model.specs.declared.step.Step.{Step}
use Rattle.pmsi_model.specs.Job.{JobValue, IsJob}
use Rattle.pmsi_model.specs.Shared.{BusSide}
use Rattle.pmsi_model.specs.Parts.{IsBusPart}
use Rattle.pmsi_model.specs.Spreads.{Counts, counts_after}
use Rattle.core_unit.specs.declared.state.State.{State}
use Rattle.sim_steps.specs.Cores.{IsAt}

-- the cores, by their number, and the bus
pub record SpreadValue : Type 0 where
  pub cores : List State
  pub bus : BusSide

-- the cores and the bus are those of a job, and stand at these counts
pub record StandsAt (job : JobValue) (k : Counts) (v : SpreadValue) : Type 0 where
  pub within : IsJob job
  pub all : length v.cores ≡ job.shape.cores
  pub core : (c : ℕ) (other : State) → c < job.shape.cores → IsAt job (k.count c) c (k.marked c) (slice_index_or v.cores c other)
  pub bus : IsBusPart job k.turn v.bus
  pub keeps : v.bus.keeps ≡ true

-- a Spread is that of a job after these steps
abbrev pub IsSpreadOf : JobValue → List Step → SpreadValue → Type 0
IsSpreadOf job steps v = StandsAt job (counts_after job steps) v

-- a Spread is that of some job after some steps
pub record IsSpread (v : SpreadValue) : Type 0 where
  pub job : JobValue
  pub steps : List Step
  pub at : IsSpreadOf job steps v
