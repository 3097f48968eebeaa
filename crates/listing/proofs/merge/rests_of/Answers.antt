use Rattle.listing.proofs.Slots.{next_rest}
use Rattle.listing.proofs.merge.rests_of.Goals as goal

pub loop-c-preserved : goal.loop-c-preserved
loop-c-preserved c = λ job slot at kept. next_rest job c.args.with_touches slot c.loop-c.c _ _ c.rest_of.result (c.loop-c.invariant job slot at kept)
    (c.rest_of.ensures job slot at kept) c.in_ok-push.ensures.items
