use Rattle.std.proofs.Common.{rules, ap, ◌∙◌}
use Rattle.turn_bus.specs.ActionNumbers.{number_of_action}
use Rattle.turn_bus.proofs.TurnActs.{stores_record, acts, can_store, stored_is, can_act}
use Rattle.turn_bus.proofs.polling.give.Goals as goal

pub store-requires : goal.store-requires
store-requires c = let n = c.number_of-number in
    let p = can_store c.args.chair.now.me c.exchange.new.seat.me c.args.bus c.args.word n.result c.exchange.ensures.3 c.requires.seat c.requires.word
    (n.ensures.0 ∙ ap number_of_action c.requires.action, n.ensures.1) in
    (search rules, search rules, stores_record _ _ _ _ _ _ p.0 p.1 p.2 p.3)

pub fetch_add-requires : goal.fetch_add-requires
fetch_add-requires c = let m = c.args.chair.now.me in
    let s = stored_is m c.exchange.new.seat.me c.store.new.seat.me c.args.bus c.exchange.ensures.3 c.store.ensures.2 c.requires.seat in
    let p = can_act m c.store.new.seat.me c.args.bus s c.requires.seat c.requires.bus in
    (search rules, search rules, acts _ _ _ _ c.args.bus p.0 p.1 p.2 p.3 p.4)
