use Rattle.std.proofs.Common.{◌≡◌, ◌≤◌, length}
use Rattle.bus_lock.specs.Seats.{seating}
use Rattle.turn_bus.specs.Sharing.{Seated, stage}
use Rattle.bus_lock.proofs.seat.SharedBus.open_with.Given as goal

abbrev pub invariant-loop : goal.invariant-loop
invariant-loop l = record {
  long : length l.seats.items ≡ l.counter;
  room : l.about.job.shape.cores ≤ l.seats.cap;
  seated : Seated (seating l.shared) (stage l.about.job l.about.keeps 0 l.counter) l.seats.items;
}
