-- There is room for the next item.
use Rattle.std.proofs.Common.{◌≡◌, length, ap, sym, arith}
use Rattle.std.specs.Vec.{vec_capacity}
use Rattle.core_unit.proofs.reserved.ReservedList.copy.Goals as goal

pub push_reserved-requires : goal.push_reserved-requires
push_reserved-requires g c =
    let room : c.args.self.now.room ≡ vec_capacity c.self.inside.items = ap (λ r. r.room) (sym c.self.view_is) in
    let same : length c.as_slice-item-items.result.now ≡ length c.self.inside.items.items = ap length c.as_slice-item-items.ensures.value in
    let long = c.loop-item.invariant.long in let kept = c.loop-item.invariant.room in let ok = c.self.inside.items.ok in
    omega (arith, c.loop-item-test.true)
