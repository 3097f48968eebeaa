-- The lines by age are the held ones.
use Rattle.std.proofs.Common.{◌∙◌}
use Rattle.std.proofs.lemmas.List.{take_all}
use Rattle.cache_array.specs.Entries.{by_age}
use Rattle.cache_array.proofs.Sorting.{lines_aged}
use Rattle.cache_array.proofs.cache.CacheArray.held_lines.Goals as goal

pub returns : goal.returns
returns c =
    let all = take_all c.loop-line.line-index c.deref-line-items.result.now c.loop-line-test.false in
    rw (← c.self.view_is) (c.loop-line.invariant ∙ rw (all, c.deref-line-items.ensures.value, c.in_ok-by_age.ensures, c.deref.ensures.value) (lines_aged (by_age c.self.inside.entries.items)))
