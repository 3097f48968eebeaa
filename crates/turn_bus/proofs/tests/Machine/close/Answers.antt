use Rattle.std.proofs.Common.{rules, ◌≤◌, ◌≡◌, true, length, ◌∙◌, arith}
use Rattle.turn_bus.proofs.TestSeats.{at_last}
use Rattle.turn_bus.proofs.tests.Machine.close.Goals as goal

pub close-requires : goal.close-requires
close-requires g c =
    let m = c.args.self in
    let slots : c.shape-slots.result.slots ≡ m.job.shape.slots = search rules in
    let all : length m.cores.items ≤ c.loop-c.c = search rules in record {
      job = m.job;
      keeps = true;
      at_end = at_last m.bus m.job m.seats.items m.cores.items c.requires (λ d v below. c.loop-c.invariant d v (omega arith) ∙ slots);
    }
