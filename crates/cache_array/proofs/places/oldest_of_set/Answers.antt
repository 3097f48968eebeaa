-- The last of the set's lines, where all its entries hold one.
use Rattle.std.proofs.Common.{◌∙◌, ◌+◌, ◌-◌, sym, arith}
use Rattle.cache_array.proofs.Sets.{set_full, set_free, absent_leaves}
use Rattle.cache_array.proofs.places.oldest_of_set.Goals as goal

pub returns-in-Some : goal.returns-in-Some
returns-in-Some c =
    sym (absent_leaves c.args.shape.now c.args.line c.args.entries.now c.requires.absent ∙ set_free c.args.shape.now c.args.line c.first_of_set-first.result (c.first_of_set-first.result + c.args.shape.now.ways - c.first_of_set-first.result) c.in-Some.field-0 c.args.entries.now (omega arith) c.requires.shape.some_ways c.first_of_set-first.ensures.first (omega (arith, c.first_of_set-first.ensures.within, c.requires.count)) c.requires.placed
    (sym c.free_way.ensures ∙ c.in-Some.is))

pub returns-in-None : goal.returns-in-None
returns-in-None c =
    c.oldest.ensures ∙ sym (absent_leaves c.args.shape.now c.args.line c.args.entries.now c.requires.absent ∙ set_full c.args.shape.now c.args.line c.first_of_set-first.result (c.first_of_set-first.result + c.args.shape.now.ways - c.first_of_set-first.result) c.args.entries.now (omega arith) c.requires.shape.some_ways c.first_of_set-first.ensures.first (omega (arith, c.first_of_set-first.ensures.within, c.requires.count)) c.requires.placed
    (sym c.free_way.ensures ∙ c.in-None.is))
