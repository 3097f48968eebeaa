use Rattle.std.proofs.Common.{rules}
use Rattle.turn_bus.proofs.TurnLooks.{takes_bus, slot_of}
use Rattle.turn_bus.proofs.polling.take.Goals as goal

pub load-requires : goal.load-requires
load-requires c = (search rules, search rules, takes_bus _ _ _ _ c.requires.rests c.requires.more c.requires.own)

pub exchange-requires : goal.exchange-requires
exchange-requires c = (search rules, slot_of c.args.chair.now.me c.load.new.seat.me c.load.ensures.2)
