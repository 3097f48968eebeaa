use Rattle.slot_plan.proofs.NextOwn.{distance_to_next}
use Rattle.slot_plan.proofs.laws.distances.Goals as goal

pub returns : goal.returns
returns c = distance_to_next
