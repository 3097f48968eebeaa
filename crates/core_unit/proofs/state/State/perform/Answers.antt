use Rattle.std.proofs.Common.{◌≡◌, Some, rules, ◌-◌, ◌%◌, ◌∙◌, ap, subst, sym}
use Rattle.pmsi_model.specs.Geometry.{line_of}
use Rattle.cache_array.specs.Cache.{place_of, way_of}
use Rattle.core_unit.specs.declared.state.State.{State}
use Rattle.core_unit.proofs.Copies.{aligned_line}
use Rattle.core_unit.proofs.Performs.{performed_by}
use Rattle.core_unit.proofs.Words.{some_words}
use Rattle.core_unit.proofs.state.State.perform.Goals as goal

pub read_word_at-met-requires-clause-place : goal.read_word_at-met-requires-clause-place
read_word_at-met-requires-clause-place c = let cache = c.args.self.now.cache in
    ap (λ l. place_of l cache) (aligned_line cache.shape c.args.access.address (some_words cache.shape c.requires.shape)) ∙ c.requires.place

pub leave-requires-clause-place : goal.leave-requires-clause-place
leave-requires-clause-place c = let cache = c.args.self.now.cache in
    subst (λ (v : State). place_of (line_of v.cache.shape (c.args.access.address - c.args.access.address % 4)) v.cache ≡ Some c.args.place) (sym c.retire-left.ensures.state)
    (ap (λ l. place_of l cache) (aligned_line cache.shape c.args.access.address (some_words cache.shape c.requires.shape)) ∙ c.requires.place)

pub returns-clause-after : goal.returns-clause-after
returns-clause-after c = performed_by c.args.access c.args.self.now c.retire-left.new.self c.leave.new.self c.read_word_at-met.result c.retire-left.result c.requires.shape
    c.read_word_at-met.ensures c.retire-left.ensures.word (search rules) c.retire-left.ensures.state c.leave.ensures.after

pub returns-clause-ways : goal.returns-clause-ways
returns-clause-ways c = λ line. c.leave.ensures.ways line ∙ ap (λ (v : State). way_of line v.cache.lines) c.retire-left.ensures.state
