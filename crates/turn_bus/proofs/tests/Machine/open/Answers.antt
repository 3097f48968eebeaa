use Rattle.std.proofs.Common.{Bool, subst}
use Rattle.turn_bus.specs.Seats.{AreSeats}
use Rattle.turn_bus.proofs.TestSeats.{at_first}
use Rattle.turn_bus.proofs.tests.Machine.open.Goals as goal

pub returns : goal.returns
returns c = at_first c.in_ok-bus.bus c.args.job _ c.in_ok-bus.seats.items c.in_ok-cores.cores.items
    (subst (λ (keeps : Bool). AreSeats c.in_ok-bus.bus c.args.job keeps 0 c.in_ok-bus.seats.items) c.in_ok-open.ensures.keeps c.in_ok-bus.ensures) c.in_ok-cores.ensures
