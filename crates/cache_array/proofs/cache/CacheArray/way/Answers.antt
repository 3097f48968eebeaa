-- The way of the entry.
use Rattle.std.proofs.Common.{sym, ap, ◌∙◌}
use Rattle.std.specs.Option.{option_map}
use Rattle.cache_array.specs.declared.line.CachedLine.{CachedLine}
use Rattle.cache_array.proofs.ByAge.{absent_entry, absent_mode}
use Rattle.cache_array.proofs.Ways.{stands_way, way_below, ways_apart}
use Rattle.cache_array.proofs.cache.CacheArray.way.Goals as goal

pub returns-in_err-place-clause-way : goal.returns-in_err-place-clause-way
returns-in_err-place-clause-way c =
    let none = rw c.deref.ensures.value at c.in_err-place.ensures in
    rw (← c.self.view_is) (c.from_residual.ensures ∙ sym (ap (option_map (λ (l : CachedLine). l.way)) (absent_entry c.args.line c.self.inside.entries.items none)))

pub returns-in_err-place-clause-apart : goal.returns-in_err-place-clause-apart
returns-in_err-place-clause-apart c =
    let none = rw c.deref.ensures.value at c.in_err-place.ensures in
    rw (← c.self.view_is) (λ held. absurd (held (absent_mode c.args.line c.self.inside.entries.items none)))

pub returns-clause-way : goal.returns-clause-way
returns-clause-way c =
    let at = rw c.deref.ensures.value at c.in_ok-place.ensures in
    rw (← c.self.view_is) (sym (stands_way c.args.line c.in_ok-place.place c.self.inside.entries.items c.index.result.now at c.index.ensures))

pub returns-clause-below : goal.returns-clause-below
returns-clause-below c =
    let at = rw c.deref.ensures.value at c.in_ok-place.ensures in
    rw (← c.self.view_is) (way_below c.self.inside.shape c.args.line c.in_ok-place.place c.self.inside.entries.items c.index.result.now c.self.invariant.cache.shape.some_ways c.self.invariant.placed at c.index.ensures)

pub returns-clause-apart : goal.returns-clause-apart
returns-clause-apart c =
    let at = rw c.deref.ensures.value at c.in_ok-place.ensures in
    rw (← c.self.view_is) (λ held other set way. ways_apart c.self.inside.shape c.args.line other c.in_ok-place.place c.self.inside.entries.items c.index.result.now c.self.invariant.cache.once c.self.invariant.placed at c.index.ensures set
    (way ∙ stands_way c.args.line c.in_ok-place.place c.self.inside.entries.items c.index.result.now at c.index.ensures))
