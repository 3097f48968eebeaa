use Rattle.std.proofs.Common.{◌-◌}
use Rattle.slot_plan.proofs.Counts.{IsCounted}
use Rattle.slot_plan.proofs.count_own.Given as goal

abbrev pub invariant-loop-slot : goal.invariant-loop-slot
invariant-loop-slot l = IsCounted l.table l.core l.slots l.slot l.count

abbrev pub decreases-loop-slot : goal.decreases-loop-slot
decreases-loop-slot l = l.slots - l.slot
