-- The slot at the distance is the next own one.
use Rattle.std.proofs.Common.{◌≡◌, ◌≤◌, arith}
use Rattle.pmsi_model.specs.Slots.{distance}
use Rattle.slot_plan.proofs.NextOwn.{next_at_distance}
use Rattle.slot_plan.proofs.next_own.Goals as goal

pub returns : goal.returns
returns c =
    let some : 1 ≤ c.distance.result = c.distance.ensures.some in
    let is : c.distance.result ≡ distance c.args.table.now c.args.core c.args.slot = c.distance.ensures.distance in
    next_at_distance c.args.table.now c.args.core c.args.slot _ c.requires.core (omega arith)
