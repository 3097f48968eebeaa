use Rattle.sim_serial.proofs.sim.Sim.state_name.Goals as goal

pub returns : goal.returns
returns c = λ job slot at. c.state_name.ensures.at job slot c.args.c (c.core.ensures.part job slot at)
