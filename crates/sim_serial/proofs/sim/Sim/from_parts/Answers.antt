-- They are a machine, and so a coherent one.
use Rattle.sim_serial.proofs.Sims.{is_sim}
use Rattle.sim_serial.proofs.sim.Sim.from_parts.Goals as goal

pub invariant_of-result : goal.invariant_of-result
invariant_of-result c = is_sim c.requires.job c.requires.slot c.args.cores.items c.args.bus c.requires.at
