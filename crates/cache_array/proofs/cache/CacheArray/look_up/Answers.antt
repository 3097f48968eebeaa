-- The place and the mode of the entry.
use Rattle.std.proofs.Common.{ℕ, ◌+◌, ◌*◌, Option, ◌∙◌, sym, ap}
use Rattle.std.specs.Option.{option_map}
use Rattle.pmsi_model.specs.Geometry.{set_of}
use Rattle.cache_array.specs.declared.line.CachedLine.{CachedLine}
use Rattle.cache_array.specs.declared.cache.Found.{Found}
use Rattle.cache_array.proofs.ByAge.{absent_entry, absent_mode}
use Rattle.cache_array.proofs.Stands.{stands_mode}
use Rattle.cache_array.proofs.Ways.{stands_place}
use Rattle.cache_array.proofs.cache.CacheArray.look_up.Goals as goal

pub returns-in_err-place-clause-place : goal.returns-in_err-place-clause-place
returns-in_err-place-clause-place c =
    let none = rw c.deref.ensures.value at c.in_err-place.ensures in
    rw (← c.self.view_is) (ap (option_map (λ (f : Found). f.place)) c.from_residual.ensures
    ∙ sym (ap (λ (o : Option CachedLine). option_map (λ (w : ℕ). set_of c.self.inside.shape c.args.line * c.self.inside.shape.ways + w) (option_map (λ (l : CachedLine). l.way) o))
    (absent_entry c.args.line c.self.inside.entries.items none)))

pub returns-in_err-place-clause-mode : goal.returns-in_err-place-clause-mode
returns-in_err-place-clause-mode c =
    let none = rw c.deref.ensures.value at c.in_err-place.ensures in
    rw (← c.self.view_is) (ap (option_map (λ (f : Found). f.mode)) c.from_residual.ensures ∙ sym (absent_mode c.args.line c.self.inside.entries.items none))

pub returns-clause-place : goal.returns-clause-place
returns-clause-place c =
    let at = rw c.deref.ensures.value at c.in_ok-place.ensures in
    rw (← c.self.view_is) (sym (stands_place c.self.inside.shape c.args.line c.in_ok-place.place c.self.inside.entries.items c.index.result.now c.self.invariant.placed at c.index.ensures))

pub returns-clause-mode : goal.returns-clause-mode
returns-clause-mode c =
    let at = rw c.deref.ensures.value at c.in_ok-place.ensures in
    rw (← c.self.view_is) (sym (stands_mode c.args.line c.in_ok-place.place c.self.inside.entries.items c.index.result.now at c.index.ensures))
