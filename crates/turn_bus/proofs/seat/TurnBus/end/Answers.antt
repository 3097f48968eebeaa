use Rattle.std.proofs.Common.{◌≡◌, Some, sym, ap, ◌∙◌, subst}
use mathlib.Core.Option.{some-injective}
use Rattle.turn_bus.specs.Rule.{BusBox}
use Rattle.turn_bus.specs.Sharing.{IsBusAt}
use Rattle.turn_bus.specs.Seats.{view_of}
use Rattle.turn_bus.proofs.SeatLists.{closes}
use Rattle.turn_bus.proofs.seat.TurnBus.end.Goals as goal
use Rattle.turn_bus.proofs.seat.TurnBus.end.Goals.{After-take-value}

value_is : (c : After-take-value) → (b : BusBox) × (c.take-value.result ≡ Some b) × IsBusAt (view_of c.args.root).job (view_of c.args.root).keeps (view_of c.args.root).job.shape.slots b.value
value_is c = let rests = c.args.root.rests in let e = closes _ _ (view_of c.args.root) _ _ rests.live rests.idle c.requires.ending c.close_with-closed.ensures.values.2 in
    (e.0, some-injective _ _ (sym c.take-value.ensures.value ∙ e.1), e.2)

pub unreachable-requires : goal.unreachable-requires
unreachable-requires c = let v = value_is (goal.at.unreachable-requires c).After-take-value in c.in_default.not-Some _ v.1

pub returns : goal.returns
returns c = let v = value_is (goal.at.returns c).After-take-value in let e = sym c.in-Some.is ∙ v.1 in
    let lies : c.in-Some.bus ≡ v.0 = cc in
    let same = c.into_inner.ensures ∙ ap (λ (b : BusBox). b.value) lies in
    subst (IsBusAt (view_of c.args.root).job (view_of c.args.root).keeps (view_of c.args.root).job.shape.slots) (sym same) v.2
