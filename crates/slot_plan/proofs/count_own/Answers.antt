-- The count is of the own slots that were passed.
use Rattle.std.proofs.Common.{arith}
use Rattle.slot_plan.proofs.Counts.{starts, one_more, all_counted, few}
use Rattle.slot_plan.proofs.count_own.Goals as goal

pub loop-slot-init : goal.loop-slot-init
loop-slot-init c = starts c.args.table.now c.args.core c.args.slots c.next_own-slot.result c.next_own-slot.ensures

pub overflow_add-count : goal.overflow_add-count
overflow_add-count c = let most = few c.args.table.now c.args.core c.args.slots c.loop-slot.slot c.loop-slot.count c.loop-slot.invariant in let limit = c.requires.slots in omega arith

pub loop-slot-preserved : goal.loop-slot-preserved
loop-slot-preserved c = one_more c.args.table.now c.args.core c.args.slots c.loop-slot.slot c.next_own-slot-in-loop-slot.result c.loop-slot.count
    c.loop-slot.invariant c.loop-slot-test.true c.next_own-slot-in-loop-slot.ensures

pub returns : goal.returns
returns c = all_counted c.args.table.now c.args.core c.args.slots c.loop-slot.slot c.loop-slot.count c.loop-slot.invariant (let past = c.loop-slot-test.false in omega arith)
