use Rattle.std.proofs.Common.{◌<◌, set, sym, subst}
use Rattle.pmsi_model.specs.declared.step.Step.{Step}
use Rattle.pmsi_model.specs.Spreads.{core_in}
use Rattle.sim_steps.specs.Steps.{IsStep}
use Rattle.sim_steps.proofs.Steps.{meet_is, phase_is, are_taking, spread}
use Rattle.sim_steps.proofs.spread.step_at.Goals as goal

pub returns-in-Phase : goal.returns-in-Phase
returns-in-Phase c = λ job k r. let n = c.in-Phase.c in
    let here : n < job.shape.cores = subst (λ (s : Step). core_in s < job.shape.cores) c.in-Phase.is r.below in
    subst (λ (s : Step). IsStep job s k (spread c.args.cores.now c.args.bus.now) (spread (set c.args.cores.now n c.phase_step.new.core) c.args.bus.now)
    c.phase_step.result)
    (sym c.in-Phase.is)
    (phase_is job k c.args.cores.now c.args.bus.now n r.at here _ c.phase_step.new.core c.phase_step.result
    (c.phase_step.ensures job n k (r.at.core n _ here)))

pub returns-in-Meet : goal.returns-in-Meet
returns-in-Meet c = λ job k r. let n = c.in-Meet.c in
    let here : n < job.shape.cores = subst (λ (s : Step). core_in s < job.shape.cores) c.in-Meet.is r.below in
    subst (λ (s : Step). IsStep job s k (spread c.args.cores.now c.args.bus.now) (spread (set c.args.cores.now n c.meet_step.new.core) c.meet_step.new.bus)
    c.meet_step.result)
    (sym c.in-Meet.is)
    (meet_is job k c.args.cores.now c.args.bus.now n r.at here _ c.meet_step.new.core c.meet_step.new.bus c.meet_step.result
    (c.meet_step.ensures job n k (are_taking job k c.args.cores.now c.args.bus.now n r.at here r.fits _)))
