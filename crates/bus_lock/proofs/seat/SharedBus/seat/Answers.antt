use Rattle.std.proofs.Common.{rules}
use Rattle.bus_lock.proofs.SeatLists.{splits}
use Rattle.bus_lock.proofs.seat.SharedBus.seat.Goals as goal

pub split_seat-chair-requires : goal.split_seat-chair-requires
split_seat-chair-requires c = let rests = c.args.root.now.rests in (search rules, search rules, splits _ _ _ rests.1 rests.0 c.requires.opening)
