use Rattle.std.proofs.Common.{rules}
use Rattle.turn_bus.proofs.SeatLists.{splits}
use Rattle.turn_bus.proofs.seat.TurnBus.seat.Goals as goal

pub split_seat-chair-requires : goal.split_seat-chair-requires
split_seat-chair-requires c = let rests = c.args.root.now.rests in (search rules, search rules, splits _ _ _ rests.live rests.idle c.requires.opening)
