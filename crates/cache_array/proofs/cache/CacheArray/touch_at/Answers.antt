-- The cache with a line at the front.
use Rattle.std.proofs.Common.{◌≡◌, List, refl, set, ◌∙◌, ap, arith}
use Rattle.cache_array.specs.declared.line.CachedLine.{CachedLine}
use Rattle.cache_array.specs.Cache.{place_of, touched}
use Rattle.cache_array.specs.Entries.{lines_of, StandsAt, IsArray}
use Rattle.cache_array.proofs.Lines.{way_of-touched, held_of-touched, words_of-touched}
use Rattle.cache_array.proofs.Stands.{stands_touched, IsArray-touched}
use Rattle.cache_array.proofs.Renewal.{IsArray-aged}
use Rattle.cache_array.proofs.Ways.{stands_at_place}
use Rattle.cache_array.proofs.cache.CacheArray.touch_at.Goals as goal

pub index_mut-requires : goal.index_mut-requires
index_mut-requires c =
    let aged = IsArray-aged c.self.inside.shape c.self.inside.next c.take_age-age.result c.self.inside.entries.items c.take_age-age.new.entries.items c.self.invariant c.take_age-age.ensures.lines c.take_age-age.ensures.rest c.take_age-age.ensures.ages in
    let at = stands_at_place c.self.inside.shape c.args.line c.args.place c.take_age-age.result c.take_age-age.new.entries.items aged
    (ap (λ (ls : List CachedLine). place_of c.args.line (record { shape = c.self.inside.shape; lines = ls })) c.take_age-age.ensures.lines ∙ (rw (← c.self.view_is) at c.requires)) in
    let within = at.within in let count = c.take_age-age.new.entries.ok in grind arith

aged : (c : goal.After-self-2-1) → IsArray c.self.inside.shape c.take_age-age.result c.take_age-age.new.entries.items
aged c = IsArray-aged c.self.inside.shape c.self.inside.next c.take_age-age.result c.self.inside.entries.items c.take_age-age.new.entries.items c.self.invariant c.take_age-age.ensures.lines c.take_age-age.ensures.rest c.take_age-age.ensures.ages

stands : (c : goal.After-self-2-1) → StandsAt c.args.line c.args.place c.take_age-age.new.entries.items
stands c = stands_at_place c.self.inside.shape c.args.line c.args.place c.take_age-age.result c.take_age-age.new.entries.items (aged c)
    (ap (λ (ls : List CachedLine). place_of c.args.line (record { shape = c.self.inside.shape; lines = ls })) c.take_age-age.ensures.lines ∙ (rw (← c.self.view_is) at c.requires))

after : (c : goal.After-self-2-1) → lines_of (set c.take_age-age.new.entries.items c.args.place (record c.index_mut.result.now { age = c.take_age-age.result })) ≡ touched c.args.line (lines_of c.self.inside.entries.items)
after c = stands_touched c.args.line c.args.place c.take_age-age.result c.take_age-age.new.entries.items c.index_mut.result.now (stands c) c.index_mut.ensures.value c.take_age-age.ensures.ages
    ∙ ap (touched c.args.line) c.take_age-age.ensures.lines

pub invariant_of-self : goal.invariant_of-self
invariant_of-self c = IsArray-touched c.self.inside.shape c.args.line c.args.place c.take_age-age.result c.take_age-age.new.entries.items c.index_mut.result.now (aged c) (stands c) c.index_mut.ensures.value

pub returns-clause-after : goal.returns-clause-after
returns-clause-after c = rw (after c, ← c.self.view_is) refl

pub returns-clause-held : goal.returns-clause-held
returns-clause-held c = rw (after c, ← c.self.view_is) (held_of-touched c.args.line (lines_of c.self.inside.entries.items))

pub returns-clause-words : goal.returns-clause-words
returns-clause-words c k = rw (after c, ← c.self.view_is) (words_of-touched c.args.line k (lines_of c.self.inside.entries.items))

pub returns-clause-ways : goal.returns-clause-ways
returns-clause-ways c k = rw (after c, ← c.self.view_is) (way_of-touched c.args.line k (lines_of c.self.inside.entries.items))
