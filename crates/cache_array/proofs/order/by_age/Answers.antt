-- The sort is stable, so that the order is the one by age.
use Rattle.std.proofs.Common.{rules}
use Rattle.std.proofs.lemmas.List.Sorted.{answers_always}
use Rattle.cache_array.proofs.Sorting.{younger, younger_first, sorted_is_by_age}
use Rattle.cache_array.proofs.order.by_age.Goals as goal

pub returns : goal.returns
returns c =
    let compares = answers_always _ _ _ (λ f a r next called. search rules) in
    sorted_is_by_age c.args.entries.now c.sort_by.new.self.items (c.in_ok-sort_by.ensures.sorted younger younger_first compares)
    (rw c.in_ok-lines.ensures at (c.sort_by.ensures.stable younger younger_first compares))
