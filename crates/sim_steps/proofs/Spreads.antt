-- Spreads as they are opened, and as they go on.
use Rattle.std.proofs.Common.{◌≡◌, ℕ, ◌<◌, false, true, List, [], ◌∷◌, ◌++◌, length, sym, ◌∙◌, subst}
use Rattle.pmsi_model.specs.declared.Keep.{Keep}
use Rattle.pmsi_model.specs.declared.step.Step.{Step}
use Rattle.pmsi_model.specs.Job.{JobValue}
use Rattle.pmsi_model.specs.Shared.{BusSide}
use Rattle.pmsi_model.specs.Parts.{IsBusPart}
use Rattle.pmsi_model.specs.Spreads.{at_start, core_in, counts_from, counts_after}
use Rattle.pmsi_model.proofs.Spreads.{one_more, spreads_fit}
use Rattle.core_unit.specs.declared.state.State.{State}
use Rattle.sim_steps.specs.declared.took.Took.{Took}
use Rattle.core_unit.specs.Opened.{AreOpened}
use Rattle.sim_steps.specs.Spreads.{IsSpread, IsSpreadOf, SpreadValue, StandsAt}
use Rattle.sim_steps.specs.Steps.{AreReady, CanStep, IsStep}

pub opened : (job : JobValue) (keep : Keep) (cores : List State) (bus : BusSide) → keep.touches ≡ false → AreOpened job keep cores → IsBusPart job 0 bus →
    bus.keeps ≡ true → IsSpreadOf job [] (record { cores = cores; bus = bus })
unfolding counts_from
opened job keep cores bus none parts side kept = record {
  within = parts.within;
  all = parts.all;
  core = λ c other below. record { part = parts.part c other below; keeps = parts.keeps c other below ∙ none };
  bus = side;
  keeps = kept;
}

pub are_ready : (job : JobValue) (steps : List Step) (step : Step) (v : SpreadValue) → IsSpreadOf job steps v → core_in step < length v.cores →
    AreReady job step (counts_after job steps) v
are_ready job steps step v at below = record {
  fits = spreads_fit job steps;
  at = at;
  below = subst (λ (n : ℕ). core_in step < n) at.all below;
}

pub can_step : (step : Step) (v : SpreadValue) → IsSpread v → core_in step < length v.cores → CanStep step v
can_step step v is below = record { job = is.job; counts = counts_after is.job is.steps; ready = are_ready is.job is.steps step v is.at below }

pub next_of : (job : JobValue) (steps : List Step) (step : Step) (v w : SpreadValue) (result : Took) →
    IsStep job step (counts_after job steps) v w result → IsSpreadOf job (steps ++ step ∷ []) w
next_of job steps step v w result s = subst (λ k. StandsAt job k w) (sym (one_more job at_start steps step)) s.at

pub next_is : (step : Step) (v w : SpreadValue) (result : Took) (is : IsSpread v) → IsStep is.job step (counts_after is.job is.steps) v w result → IsSpread w
next_is step v w result is s = record { job = is.job; steps = is.steps ++ step ∷ []; at = next_of is.job is.steps step v w result s }
