use Rattle.std.proofs.Common.{Bool, length}
use Rattle.pmsi_model.specs.Job.{JobValue}
use Rattle.turn_bus.specs.Seats.{AreSeats, seating}
use Rattle.turn_bus.specs.Sharing.{AreLeft}
use Rattle.turn_bus.proofs.seat.TurnBus.close.Given as goal

abbrev pub invariant-loop-seat : goal.invariant-loop-seat
invariant-loop-seat l =
    (job : JobValue) (keeps : Bool) → AreSeats l.self job keeps job.shape.slots l.fn.seats.items → AreLeft (seating l.self) job keeps l.root l.seats.items

abbrev pub decreases-loop-seat : goal.decreases-loop-seat
decreases-loop-seat l = length l.seats.items
