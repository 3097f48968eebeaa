use Rattle.std.proofs.Common.{rules, ap, ◌*◌, ℕ, ◌∙◌}
use Rattle.bus_lock.specs.Rule.{slot_over}
use Rattle.bus_lock.proofs.LockReleases.{ends_slot, given_back}
use Rattle.bus_lock.proofs.trying.end_slot.Goals as goal

pub swap-requires : goal.swap-requires
swap-requires c =
    (search rules, search rules, ends_slot _ _ _ c.args.chair.now.me c.exchange.new.seat.me c.args.bus c.args.bus.slot _ c.exchange.ensures.3 c.requires.bus c.requires.seat c.requires.fits c.requires.meet (ap (λ (n : ℕ). 2 * n) (c.from.ensures ∙ c.slot-next.ensures)))

pub returns-clause-seat : goal.returns-clause-seat
returns-clause-seat c = given_back c.args.chair.now.me c.exchange.new.seat.me c.swap.new.seat.me c.args.bus slot_over c.exchange.ensures.3 c.swap.ensures.2 c.requires.seat.2
