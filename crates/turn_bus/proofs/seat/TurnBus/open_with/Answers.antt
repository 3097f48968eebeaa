use Rattle.std.proofs.Common.{rules, ap, ◌≡◌, ℕ, ◌+◌, ◌++◌, [], ◌∷◌, set, subst, sym, ◌∙◌}
use Rattle.turn_bus.specs.Rule.{knowing}
use Rattle.turn_bus.specs.Seats.{seating}
use Rattle.turn_bus.specs.Sharing.{Seated, stage}
use Rattle.turn_bus.proofs.Seatings.{seated_more}
use Rattle.turn_bus.proofs.seat.TurnBus.open_with.Goals as goal

pub loop-preserved : goal.loop-preserved
loop-preserved c =
    let about = c.args.about.now in
    let bus = c.in_ok-shared.shared in
    let xs = c.loop.seats.items in
    let root = c.index_mut.result.now in
    let next = c.seat-seat.new.root in
    let seat = c.seat-seat.result in
    let e : c.push_reserved-in-loop.new.self.items ≡ set xs 0 next ++ seat ∷ [] = search rules in
    record {
      long = search rules;
      room = search rules;
      seated = subst (Seated (seating bus) (stage about.job about.keeps 0 (c.loop.counter + 1))) (sym e)
          (seated_more (seating bus) about.job about.keeps c.loop.counter xs root next seat c.loop.invariant.long (search rules)
          c.loop.invariant.seated c.index_mut.ensures.value c.seat-seat.ensures.own
          (ap knowing c.seat-seat.ensures.views.0, ap knowing c.seat-seat.ensures.views.1));
    }

pub returns : goal.returns
returns c =
    let about = c.args.about.now in
    let all : c.loop.counter ≡ about.job.shape.cores = search rules in
    record {
      within = c.requires.0;
      all = c.loop.invariant.long ∙ all;
      seated = subst (λ (n : ℕ). Seated (seating c.in_ok-shared.shared) (stage about.job about.keeps 0 n) c.loop.seats.items) all c.loop.invariant.seated;
    }
