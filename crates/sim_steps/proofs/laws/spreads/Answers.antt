use Rattle.sim_steps.proofs.Ends.{spreads_are_parts, waits_at_its_slot}
use Rattle.sim_steps.proofs.laws.spreads.Goals as goal

pub returns : goal.returns
returns c = record { parts = spreads_are_parts; waits = waits_at_its_slot }
