-- The line is met.
use Rattle.std.proofs.Common.{sym, ◌∙◌, ◌+◌, ap}
use Rattle.std.proofs.lemmas.List.{take_rest}
use Rattle.cache_array.proofs.Nth.{nth_met, held_above}
use Rattle.cache_array.proofs.order.nth_line.Goals as goal

pub returns-then-count_above-left : goal.returns-then-count_above-left
returns-then-count_above-left c = sym (nth_met c.loop-at.left c.loop-at.at c.index-entries-at.result c.args.entries.now c.loop-at-test.true c.index-entries-at.is c.if-entry.true (sym c.if-count_above-left.true ∙ c.count_above.ensures ∙ ap (held_above c.index-entries-at.result.age) (take_rest c.args.entries.now (c.loop-at.at + 1)))) ∙ c.loop-at.invariant
