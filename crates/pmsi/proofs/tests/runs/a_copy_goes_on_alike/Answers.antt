use Rattle.std.proofs.Common.{subst, sym}
use Rattle.sim_serial.specs.Sims.{Keeps}
use Rattle.pmsi.proofs.tests.runs.a_copy_goes_on_alike.Goals as goal

pub ends_as_two_writers-requires : goal.ends_as_two_writers-requires
ends_as_two_writers-requires g c = c.step-2.ensures.keeps _ (c.step.ensures.keeps _ c.in_ok-sim.ensures.keeps)

pub ends_as_two_writers-requires-2 : goal.ends_as_two_writers-requires-2
ends_as_two_writers-requires-2 g c = subst (Keeps _) (sym c.in-Ok.ensures) (c.step-2.ensures.keeps _ (c.step.ensures.keeps _ c.in_ok-sim.ensures.keeps))
