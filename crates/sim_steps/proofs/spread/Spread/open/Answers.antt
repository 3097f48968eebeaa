use Rattle.std.proofs.Common.{[], refl}
use Rattle.sim_steps.specs.Spreads.{IsSpreadOf}
use Rattle.sim_steps.proofs.Spreads.{opened}
use Rattle.sim_steps.proofs.Steps.{spread}
use Rattle.sim_steps.proofs.spread.Spread.open.Goals as goal
use Rattle.sim_steps.proofs.spread.Spread.open.Goals.{In_ok-open}

at_start : (c : In_ok-open) → IsSpreadOf c.args.job.now [] (spread c.in_ok-open_cores.field-0.items c.in_ok-open.field-0)
at_start c =
    opened c.args.job.now _ c.in_ok-open_cores.field-0.items c.in_ok-open.field-0 refl c.in_ok-open_cores.ensures
    c.in_ok-open.ensures.part c.in_ok-open.ensures.keeps

pub invariant_of-result : goal.invariant_of-result
invariant_of-result c = record { job = c.args.job.now; steps = []; at = at_start (goal.at.invariant_of-result c).In_ok-open }

pub returns : goal.returns
returns c = at_start (goal.at.returns c).In_ok-open
