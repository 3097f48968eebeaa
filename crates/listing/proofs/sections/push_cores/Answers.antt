use Rattle.pmsi_model.specs.Run.{machine_at}
use Rattle.listing.proofs.Parts.{cores_further}
use Rattle.listing.proofs.sections.push_cores.Goals as goal

pub loop-c-preserved : goal.loop-c-preserved
loop-c-preserved c = λ job slot at. cores_further (machine_at job slot) c.loop-c.c _ _ _ _ (c.core.ensures.machine job slot at) (c.loop-c.invariant job slot at) c.in_ok-push_core.ensures
