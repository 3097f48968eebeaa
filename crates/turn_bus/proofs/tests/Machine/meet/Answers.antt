use Rattle.std.proofs.Common.{rules}
use Rattle.turn_bus.proofs.TestSeats.{at_next, stands_at}
use Rattle.turn_bus.proofs.tests.Machine.meet.Goals as goal

pub meet-requires-clause-core : goal.meet-requires-clause-core
meet-requires-clause-core g c = stands_at c.args.self.now.bus c.args.self.now.job c.args.self.now.seats.items c.args.self.now.cores.items c.requires c.args.c
    c.index_mut.result.now c.index_mut-2.result.now (search rules) (search rules) (search rules)

pub returns : goal.returns
returns g c = at_next c.args.self.now.bus c.args.self.now.job c.args.self.now.seats.items c.args.self.now.cores.items c.requires c.args.c
    c.index_mut.result.now (search rules) (search rules) c.meet.new.seat c.meet.new.core c.meet.ensures.own c.meet.ensures.same c.meet.ensures.core
