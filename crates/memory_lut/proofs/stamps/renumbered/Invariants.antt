-- The entries so far have their new stamps.
use Rattle.std.proofs.Common.{◌≡◌, map, take}
use Rattle.memory_lut.specs.Table.{ranked_entry}
use Rattle.memory_lut.proofs.stamps.renumbered.Given as goal

abbrev pub invariant-loop-entry : goal.invariant-loop-entry
invariant-loop-entry l = l.entries.items ≡ map (ranked_entry l.old) (take l.entry-index l.old)
