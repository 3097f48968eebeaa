-- By whether the entry is younger than the line at the place.
use Rattle.std.proofs.Common.{arith}
use Rattle.cache_array.proofs.Nth.{left_less, left_more}
use Rattle.cache_array.proofs.order.left_after.Goals as goal

pub returns-then-count_above-left : goal.returns-then-count_above-left
returns-then-count_above-left c = left_more c.args.left c.args.entry.now c.args.rest.now (grind (arith, c.if-not-entry.false)) (rw c.count_above.ensures at c.if-count_above-left.true)

pub returns-else-count_above-left : goal.returns-else-count_above-left
returns-else-count_above-left c =
    let most = rw c.count_above.ensures at c.if-count_above-left.false in
    left_less c.args.left c.args.entry.now c.args.rest.now (λ held. let other = c.requires held in omega (arith, most, other))
