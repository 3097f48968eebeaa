-- What a step comes to.
use Rattle.std.specs.Prelude.{◌≡◌, ◌≢◌, ◌<◌, List, [], ◌∷◌, ◌++◌}
use Rattle.pmsi_model.specs.declared.step.Step.{Step}
use Rattle.pmsi_model.specs.Job.{JobValue}
use Rattle.pmsi_model.specs.Spreads.{AllFit, Counts, core_in, counts_after, step_counts}
use Rattle.sim_steps.specs.declared.took.Took.{Took}
use Rattle.sim_steps.specs.declared.took.Took.TheVariants.{Done}
use Rattle.sim_steps.specs.Took.{took}
use Rattle.sim_steps.specs.Spreads.{IsSpreadOf, SpreadValue, StandsAt}

-- cores and bus are those of a job, at counts of which each fits the bus's
pub record AreReady (job : JobValue) (step : Step) (k : Counts) (v : SpreadValue) : Type 0 where
  pub fits : AllFit job k
  pub at : StandsAt job k v
  pub below : core_in step < job.shape.cores

pub record CanStep (step : Step) (v : SpreadValue) : Type 0 where
  pub job : JobValue
  pub counts : Counts
  pub ready : AreReady job step counts v

-- a step was taken, or changed nothing
pub record IsStep (job : JobValue) (step : Step) (k : Counts) (v w : SpreadValue) (result : Took) : Type 0 where
  pub at : StandsAt job (step_counts job step k) w
  pub answer : result ≡ took job step k
  pub same : result ≢ Done → w ≡ v

abbrev pub Takes : Step → SpreadValue → SpreadValue → Took → Type 0
Takes step v w result = (job : JobValue) (k : Counts) → AreReady job step k v → IsStep job step k v w result

-- a Spread of a job after some steps becomes that after one more
abbrev pub GoesOn : Step → SpreadValue → SpreadValue → Type 0
GoesOn step v w = (job : JobValue) (steps : List Step) → IsSpreadOf job steps v → IsSpreadOf job (steps ++ step ∷ []) w

-- the answer is that of the counts
abbrev pub TookByCounts : Step → SpreadValue → Took → Type 0
TookByCounts step v result = (job : JobValue) (steps : List Step) → IsSpreadOf job steps v → result ≡ took job step (counts_after job steps)
