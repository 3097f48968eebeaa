use Rattle.std.proofs.Common.{◌≡◌, ℕ, Option, Some, IfSome, is_some, ◌∙◌, ap, subst, sym}
use Rattle.pmsi_model.specs.Geometry.{IsGeometry}
use Rattle.pmsi_model.specs.Machine.{mode_of}
use Rattle.pmsi_model.specs.Phase.{permits}
use Rattle.cache_array.specs.Cache.{held_of, place_of}
use Rattle.core_unit.specs.declared.state.State.{State}
use Rattle.core_unit.proofs.Performs.{place_kept}
use Rattle.core_unit.proofs.Steps.{access_hits, access_misses, can_miss, gone_chosen, hit_run, missed_run}
use Rattle.core_unit.proofs.Touches.{touches_hit, touches_miss}
use Rattle.core_unit.proofs.state.State.access.Goals as goal

pub line_of-line-requires : goal.line_of-line-requires
line_of-line-requires c = subst IsGeometry (sym c.requires.ready.carries.shape) c.requires.ready.carries.within.shape

pub touch_at-requires : goal.touch_at-requires
touch_at-requires c = let cache = c.args.self.now.cache in let line = c.line_of-line.result in
    place_kept line cache c.perform.new.self.cache (ap (λ (v : State). v.cache.shape) c.perform.ensures.after) (c.perform.ensures.ways line)
    ∙ subst (λ (o : Option ℕ). IfSome o (λ place. place_of line cache ≡ Some place)) c.in-Some.is c.permitted_place.ensures.place

pub miss-requires-clause-room : goal.miss-requires-clause-room
miss-requires-clause-room c = can_miss c.args.self.now c.args.access c.requires.ready c.line_of-line.result c.line_of-line.ensures

pub returns-in-Some-clause-same : goal.returns-in-Some-clause-same
returns-in-Some-clause-same c = hit_run c.line_of-line.result c.args.access c.args.self.now c.perform.new.self c.touch_at.new.self
    c.perform.ensures.after c.touch_at.ensures.after

pub returns-in-None-clause-same : goal.returns-in-None-clause-same
returns-in-None-clause-same c = missed_run c.args.self.now c.args.access c.requires.ready c.line_of-line.result c.line_of-line.ensures c.miss.new.self c.miss.ensures

pub returns-in-Some-clause-stands : goal.returns-in-Some-clause-stands
returns-in-Some-clause-stands c = λ job c' memory s.
    access_hits job c' memory c.args.self.now c.perform.new.self c.touch_at.new.self c.line_of-line.result c.args.access s c.requires.within c.line_of-line.ensures
    (ap (λ k. permits k (mode_of c.line_of-line.result (held_of c.args.self.now.cache.lines))) (sym c.kind.ensures) ∙ sym c.permitted_place.ensures.permits ∙ ap is_some c.in-Some.is)
    c.perform.ensures.after c.touch_at.ensures.after

pub returns-in-Some-clause-touched : goal.returns-in-Some-clause-touched
returns-in-Some-clause-touched c = λ job c' memory s.
    touches_hit job c' memory c.args.self.now c.perform.new.self c.line_of-line.result c.args.access s c.requires.within c.line_of-line.ensures
    (ap (λ k. permits k (mode_of c.line_of-line.result (held_of c.args.self.now.cache.lines))) (sym c.kind.ensures) ∙ sym c.permitted_place.ensures.permits ∙ ap is_some c.in-Some.is)
    c.perform.ensures.after

pub returns-in-None-clause-stands : goal.returns-in-None-clause-stands
returns-in-None-clause-stands c = λ job c' memory s.
    access_misses job c' memory c.args.self.now c.miss.new.self c.line_of-line.result c.args.access s c.requires.within c.line_of-line.ensures
    (ap (λ k. permits k (mode_of c.line_of-line.result (held_of c.args.self.now.cache.lines))) (sym c.kind.ensures) ∙ sym c.permitted_place.ensures.permits ∙ ap is_some c.in-None.is)
    (gone_chosen c.args.self.now c.args.access c.requires.ready c.line_of-line.result c.line_of-line.ensures) c.miss.ensures

pub returns-in-None-clause-touched : goal.returns-in-None-clause-touched
returns-in-None-clause-touched c = λ job c' memory s.
    touches_miss job c' memory c.args.self.now c.miss.new.self c.line_of-line.result c.args.access s c.line_of-line.ensures
    (ap (λ k. permits k (mode_of c.line_of-line.result (held_of c.args.self.now.cache.lines))) (sym c.kind.ensures) ∙ sym c.permitted_place.ensures.permits ∙ ap is_some c.in-None.is)
    c.miss.ensures
