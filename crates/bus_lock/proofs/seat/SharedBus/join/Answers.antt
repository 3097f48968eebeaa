use Rattle.std.proofs.Common.{rules}
use Rattle.bus_lock.proofs.SeatLists.{joins}
use Rattle.bus_lock.proofs.seat.SharedBus.join.Goals as goal

pub join_seat-requires : goal.join_seat-requires
join_seat-requires c = let rests = c.args.root.now.rests in let other = c.args.seat.rests in
    (search rules, search rules, other.2, search rules, joins _ _ _ _ _ record { live = rests.1; idle = rests.0; zero = c.requires.root; other_live = other.1; other_idle = other.0 })
