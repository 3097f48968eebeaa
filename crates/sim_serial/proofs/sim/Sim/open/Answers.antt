use Rattle.sim_serial.proofs.Opens.{opened_parts}
use Rattle.sim_serial.proofs.Sims.{is_sim}
use Rattle.sim_serial.proofs.sim.Sim.open.Goals as goal

pub invariant_of-result : goal.invariant_of-result
invariant_of-result c = is_sim c.args.job.now 0 c.in_ok-open_cores.field-0.items c.in_ok-open.field-0
    (record { parts = opened_parts c.args.job.now c.args.keep c.in_ok-open_cores.field-0.items c.in_ok-open_cores.ensures; side = c.in_ok-open.ensures.part })
