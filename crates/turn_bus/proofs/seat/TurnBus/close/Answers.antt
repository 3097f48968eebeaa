use Rattle.std.proofs.Common.{rules, ap, ◌≡◌, ◌++◌, [], ◌∷◌}
use Rattle.turn_bus.proofs.Seatings.{all_left, left_next, next_left, ends, bus_of_left}
use Rattle.turn_bus.specs.Rule.{knowing}
use Rattle.turn_bus.specs.Seats.{seating}
use Rattle.turn_bus.proofs.seat.TurnBus.close.Goals as goal

pub loop-seat-init : goal.loop-seat-init
loop-seat-init c = λ job keeps at. all_left (seating c.args.self) job keeps _ _ _ (search rules) at

pub join-requires-clause-own : goal.join-requires-clause-own
join-requires-clause-own c = let g = c.requires in let left = c.loop-seat.invariant g.job g.keeps g.at_end in
    let cut : c.loop-seat.seats.items ≡ c.pop.new.self.items ++ c.in-Some.seat ∷ [] = search rules in
    (left.first.own, next_left (seating c.args.self) g.job g.keeps c.loop-seat.seats.items c.pop.new.self.items c.loop-seat.root c.in-Some.seat cut left)

pub join-requires-clause-root : goal.join-requires-clause-root
join-requires-clause-root c = let g = c.requires in let left = c.loop-seat.invariant g.job g.keeps g.at_end in left.first.number

pub loop-seat-preserved : goal.loop-seat-preserved
loop-seat-preserved c = λ job keeps at.
    let cut : c.loop-seat.seats.items ≡ c.pop.new.self.items ++ c.in-Some.seat ∷ [] = search rules in
    left_next (seating c.args.self) job keeps c.loop-seat.seats.items c.pop.new.self.items c.loop-seat.root c.join.new.root c.in-Some.seat cut
    (c.loop-seat.invariant job keeps at) c.join.ensures.own (ap knowing c.join.ensures.view)

pub end-requires-clause-own : goal.end-requires-clause-own
end-requires-clause-own c = let g = c.requires in let left = c.loop-seat.invariant g.job g.keeps g.at_end in left.first.own

pub end-requires-clause-ending : goal.end-requires-clause-ending
end-requires-clause-ending c = let g = c.requires in let left = c.loop-seat.invariant g.job g.keeps g.at_end in
    let empty : c.loop-seat.seats.items ≡ [] = search rules in
    ends (seating c.args.self) g.job g.keeps c.loop-seat.seats.items c.loop-seat.root empty left

pub returns-clause-bus : goal.returns-clause-bus
returns-clause-bus c = λ job keeps at.
    (bus_of_left (seating c.args.self) job keeps c.loop-seat.seats.items c.loop-seat.root c.end.result (c.loop-seat.invariant job keeps at) c.end.ensures).0

pub returns-clause-keeps : goal.returns-clause-keeps
returns-clause-keeps c = λ job keeps at.
    (bus_of_left (seating c.args.self) job keeps c.loop-seat.seats.items c.loop-seat.root c.end.result (c.loop-seat.invariant job keeps at) c.end.ensures).1
