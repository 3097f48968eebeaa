-- A held line has a place.
use Rattle.std.proofs.Common.{sym, ap, ◌∙◌}
use Rattle.std.specs.Option.{option_map}
use Rattle.cache_array.specs.declared.cache.Found.{Found}
use Rattle.cache_array.proofs.cache.CacheArray.held_place.Goals as goal

pub unreachable-requires : goal.unreachable-requires
unreachable-requires c = c.requires (sym c.look_up.ensures.mode ∙ ap (option_map (λ (f : Found). f.mode)) c.in_default.is)
