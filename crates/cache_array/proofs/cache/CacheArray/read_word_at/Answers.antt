-- The word at its place in the line that is found.
use Rattle.std.proofs.Common.{refl, ◌∙◌, arith}
use Rattle.pmsi_model.specs.Geometry.{line_of}
use Rattle.cache_array.specs.Entries.{lines_of}
use Rattle.cache_array.proofs.Stands.{stands_words}
use Rattle.cache_array.proofs.Lines.{held_by_place}
use Rattle.cache_array.proofs.Keeps.{has_place}
use Rattle.cache_array.proofs.Ways.{stands_at_place}
use Rattle.cache_array.proofs.cache.CacheArray.read_word_at.Goals as goal

pub index-requires : goal.index-requires
index-requires c =
    let at = stands_at_place c.self.inside.shape (line_of c.self.inside.shape c.args.address) c.args.place c.self.inside.next c.self.inside.entries.items c.self.invariant (rw (← c.self.view_is) at c.requires.place) in
    let within = at.within in let count = c.self.inside.entries.ok in grind arith

pub get-requires : goal.get-requires
get-requires c =
    let at = stands_at_place c.self.inside.shape (line_of c.self.inside.shape c.args.address) c.args.place c.self.inside.next c.self.inside.entries.items c.self.invariant (rw (← c.self.view_is) at c.requires.place) in
    let words = stands_words (line_of c.self.inside.shape c.args.address) c.args.place c.self.inside.entries.items c.index.result.now at c.index.ensures in
    let held = held_by_place c.self.inside.shape (line_of c.self.inside.shape c.args.address) c.args.place (lines_of c.self.inside.entries.items) (rw (← c.self.view_is) at c.requires.place) in
    rw c.word_of-word.ensures (has_place _ (line_of c.self.inside.shape c.args.address) c.args.address c.index.result.now.cached.words c.self.invariant.cache held words)

pub returns : goal.returns
returns c =
    let at = stands_at_place c.self.inside.shape (line_of c.self.inside.shape c.args.address) c.args.place c.self.inside.next c.self.inside.entries.items c.self.invariant (rw (← c.self.view_is) at c.requires.place) in
    let words = stands_words (line_of c.self.inside.shape c.args.address) c.args.place c.self.inside.entries.items c.index.result.now at c.index.ensures in
    rw (← c.self.view_is, words) (c.get.ensures ∙ rw c.word_of-word.ensures refl)
