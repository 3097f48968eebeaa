-- The cache with another word.
use Rattle.std.proofs.Common.{◌≡◌, refl, set, slice_set, arith}
use Rattle.pmsi_model.specs.Geometry.{line_of}
use Rattle.cache_array.specs.declared.line.CachedLine.{CachedLine}
use Rattle.cache_array.specs.Cache.{with_word, word_place}
use Rattle.cache_array.specs.Entries.{lines_of, StandsAt}
use Rattle.cache_array.proofs.Lines.{held_by_place, way_of-with_word, held_of-with_word, words_of-with_word}
use Rattle.cache_array.proofs.Stands.{stands_words, stands_changed, stands_young, IsArray-kept}
use Rattle.cache_array.proofs.Keeps.{IsCache-with_word, has_place}
use Rattle.cache_array.proofs.Ways.{stands_at_place}
use Rattle.cache_array.proofs.cache.CacheArray.write_word_at.Goals as goal

pub index_mut-requires : goal.index_mut-requires
index_mut-requires c =
    let at = stands_at_place c.self.inside.shape (line_of c.self.inside.shape c.args.address) c.args.place c.self.inside.next c.self.inside.entries.items c.self.invariant (rw (← c.self.view_is) at c.requires.place) in
    let within = at.within in let count = c.self.inside.entries.ok in grind arith

pub set-requires : goal.set-requires
set-requires c =
    let at = stands_at_place c.self.inside.shape (line_of c.self.inside.shape c.args.address) c.args.place c.self.inside.next c.self.inside.entries.items c.self.invariant (rw (← c.self.view_is) at c.requires.place) in
    let words = stands_words (line_of c.self.inside.shape c.args.address) c.args.place c.self.inside.entries.items c.index_mut.result.now at c.index_mut.ensures.value in
    let held = held_by_place c.self.inside.shape (line_of c.self.inside.shape c.args.address) c.args.place (lines_of c.self.inside.entries.items) (rw (← c.self.view_is) at c.requires.place) in
    rw c.word_of-at.ensures (has_place _ (line_of c.self.inside.shape c.args.address) c.args.address c.index_mut.result.now.cached.words c.self.invariant.cache held words)

stands : (c : goal.After-self-1) → StandsAt (line_of c.self.inside.shape c.args.address) c.args.place c.self.inside.entries.items
stands c = stands_at_place c.self.inside.shape (line_of c.self.inside.shape c.args.address) c.args.place c.self.inside.next c.self.inside.entries.items c.self.invariant (rw (← c.self.view_is) at c.requires.place)

after : (c : goal.After-self-1) → lines_of (set c.self.inside.entries.items c.args.place (record c.index_mut.result.now { cached = record c.index_mut.result.now.cached { words = c.set.new.self } }))
    ≡ with_word (line_of c.self.inside.shape c.args.address) (word_place c.self.inside.shape c.args.address) c.args.word (lines_of c.self.inside.entries.items)
after c = rw (c.set.ensures, c.word_of-at.ensures)
    (stands_changed (line_of c.self.inside.shape c.args.address) c.args.place (λ (l : CachedLine). record l { words = slice_set l.words (word_place c.self.inside.shape c.args.address) c.args.word }) c.self.inside.entries.items c.index_mut.result.now (stands c) c.index_mut.ensures.value)

pub invariant_of-self : goal.invariant_of-self
invariant_of-self c = IsArray-kept c.self.inside.shape (line_of c.self.inside.shape c.args.address) c.args.place c.self.inside.next c.self.inside.next c.self.inside.entries.items c.index_mut.result.now _
    c.self.invariant (stands c) c.index_mut.ensures.value (λ held. refl) refl (λ held. stands_young _ (line_of c.self.inside.shape c.args.address) c.args.place c.self.inside.entries.items c.index_mut.result.now (stands c) c.index_mut.ensures.value c.self.invariant.ages)
    (omega arith) (rw (after c) (IsCache-with_word _ (line_of c.self.inside.shape c.args.address) (word_place c.self.inside.shape c.args.address) c.args.word c.self.invariant.cache))

pub returns-clause-after : goal.returns-clause-after
returns-clause-after c = rw (after c, ← c.self.view_is) refl

pub returns-clause-held : goal.returns-clause-held
returns-clause-held c = rw (after c, ← c.self.view_is) (held_of-with_word (line_of c.self.inside.shape c.args.address) (word_place c.self.inside.shape c.args.address) c.args.word (lines_of c.self.inside.entries.items))

pub returns-clause-words : goal.returns-clause-words
returns-clause-words c k = rw (after c, ← c.self.view_is) (words_of-with_word (line_of c.self.inside.shape c.args.address) k (word_place c.self.inside.shape c.args.address) c.args.word (lines_of c.self.inside.entries.items))

pub returns-clause-ways : goal.returns-clause-ways
returns-clause-ways c k = rw (after c, ← c.self.view_is) (way_of-with_word (line_of c.self.inside.shape c.args.address) k (word_place c.self.inside.shape c.args.address) c.args.word (lines_of c.self.inside.entries.items))
