use Rattle.std.proofs.Common.{rules}
use Rattle.turn_bus.proofs.SeatLists.{joins}
use Rattle.turn_bus.proofs.seat.TurnBus.join.Goals as goal

pub join_seat-requires : goal.join_seat-requires
join_seat-requires c = let rests = c.args.root.now.rests in let other = c.args.seat.rests in (
  search rules,
  search rules,
  other.empty,
  search rules,
  joins _ _ _ _ _ record { live = rests.live; idle = rests.idle; zero = c.requires.root; other_live = other.live; other_idle = other.idle },
)
