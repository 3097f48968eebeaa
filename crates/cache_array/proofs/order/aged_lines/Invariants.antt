-- The held lines so far.
use Rattle.std.proofs.Common.{◌≡◌, take}
use Rattle.cache_array.specs.Aged.{aged_lines}
use Rattle.cache_array.proofs.order.aged_lines.Given as goal

abbrev pub invariant-loop-entry : goal.invariant-loop-entry
invariant-loop-entry l = l.lines.items ≡ aged_lines (take l.entry-index l.entries)
