use Rattle.std.proofs.Common.{List, ap}
use Rattle.pmsi_model.specs.declared.step.Step.{Step}
use Rattle.pmsi_model.specs.Job.{JobValue}
use Rattle.pmsi_model.specs.Spreads.{counts_after}
use Rattle.sim_steps.specs.Spreads.{IsSpreadOf, SpreadValue}
use Rattle.sim_steps.specs.Steps.{IsStep}
use Rattle.sim_steps.proofs.Spreads.{are_ready, can_step, next_of, next_is}
use Rattle.sim_steps.proofs.Steps.{spread}
use Rattle.sim_steps.proofs.spread.take_step.Goals as goal
use Rattle.sim_steps.proofs.spread.take_step.Goals.{After-step_at}

pub step_at-requires : goal.step_at-requires
step_at-requires c = can_step c.args.step (spread c.args.cores.now c.args.bus.now) c.requires.spread c.requires.core

stepped : (c : After-step_at) → (job : JobValue) (steps : List Step) → IsSpreadOf job steps (spread c.args.cores.now c.args.bus.now)
    → IsStep job c.args.step (counts_after job steps) (spread c.args.cores.now c.args.bus.now) (spread c.step_at.new.cores c.step_at.new.bus)
    c.step_at.result
stepped c job steps at = c.step_at.ensures job (counts_after job steps)
    (are_ready job steps c.args.step (spread c.args.cores.now c.args.bus.now) at c.requires.core)

pub returns-clause-spread : goal.returns-clause-spread
returns-clause-spread c = λ job steps at. next_of job steps c.args.step _ _ c.step_at.result
    (stepped (goal.at.returns-clause-spread c).After-step_at job steps at)

pub returns-clause-took : goal.returns-clause-took
returns-clause-took c = λ job steps at. (stepped (goal.at.returns-clause-took c).After-step_at job steps at).answer

pub returns-clause-same : goal.returns-clause-same
returns-clause-same c = λ not_done. let is = c.requires.spread in
    let e = (stepped (goal.at.returns-clause-same c).After-step_at is.job is.steps is.at).same not_done in
    (ap (λ (v : SpreadValue). v.cores) e, ap (λ (v : SpreadValue). v.bus) e)

pub returns-clause-next : goal.returns-clause-next
returns-clause-next c = let is = c.requires.spread in
    next_is c.args.step _ _ c.step_at.result is (stepped (goal.at.returns-clause-next c).After-step_at is.job is.steps is.at)
