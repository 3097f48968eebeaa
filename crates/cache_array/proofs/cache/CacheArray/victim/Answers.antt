-- A line that is held needs no room.
use Rattle.std.proofs.Common.{sym}
use Rattle.cache_array.proofs.Sets.{held_leaves}
use Rattle.cache_array.proofs.cache.CacheArray.victim.Goals as goal

pub returns-in-Some : goal.returns-in-Some
returns-in-Some c =
    let at = rw c.deref.ensures.value at c.in-Some.ensures in
    rw (← c.self.view_is) (sym (held_leaves c.self.inside.shape c.args.line c.in-Some.field-0 c.self.inside.entries.items at))

pub returns-in-None : goal.returns-in-None
returns-in-None c = rw (← c.self.view_is) (rw c.deref-in-None.ensures.value at c.oldest_of_set.ensures)

pub oldest_of_set-requires-clause-absent : goal.oldest_of_set-requires-clause-absent
oldest_of_set-requires-clause-absent c = rw c.deref-in-None.ensures.value (rw c.deref.ensures.value at c.in-None.ensures)
