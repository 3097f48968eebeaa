use Rattle.std.proofs.Common.{◌≡◌, true}
use Rattle.pmsi_model.specs.Job.{JobValue, IsJob}
use Rattle.listing.specs.Rests.{rests_at}
use Rattle.listing.proofs.Slots.{AreTouchesTold}
use Rattle.listing.proofs.merge.push_touch_slots.Given as goal

abbrev pub invariant-loop-slot : goal.invariant-loop-slot
invariant-loop-slot l = (job : JobValue) → IsJob job → l.fn.rests ≡ rests_at job true 0 l.slots job.shape.cores → AreTouchesTold job l.slots l.slot l.fn.out.items l.out.items l.rests
