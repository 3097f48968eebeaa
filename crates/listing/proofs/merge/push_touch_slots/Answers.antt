use Rattle.std.proofs.Common.{arith}
use Rattle.listing.proofs.Slots.{touches_start, touches_more, touches_end}
use Rattle.listing.proofs.merge.push_touch_slots.Goals as goal

pub loop-slot-init : goal.loop-slot-init
loop-slot-init c = λ job is given. touches_start job c.args.slots c.args.out.now.items c.args.rests.now given

pub loop-slot-preserved : goal.loop-slot-preserved
loop-slot-preserved c = λ job is given. touches_more job c.args.slots c.loop-slot.slot c.args.out.now.items _ _ _ _ _ _ is c.loop-slot-test.true (c.loop-slot.invariant job is given)
    c.in_ok-push_pieces.ensures c.in_ok-push_pieces-2.ensures

pub returns : goal.returns
returns c = λ job is given. let past = c.loop-slot-test.false in let most = c.loop-slot.auto.slot-end in
    touches_end job c.args.slots c.loop-slot.slot _ _ _ (omega arith) (c.loop-slot.invariant job is given)
