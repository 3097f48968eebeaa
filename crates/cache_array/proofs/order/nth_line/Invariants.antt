-- What is left of the place in the entries that are left.
use Rattle.std.proofs.Common.{◌≡◌, drop}
use Rattle.std.specs.List.{slice_get}
use Rattle.cache_array.specs.Cache.{held_of}
use Rattle.cache_array.specs.Entries.{lines_of}
use Rattle.cache_array.proofs.order.nth_line.Given as goal

abbrev pub invariant-loop-at : goal.invariant-loop-at
invariant-loop-at l = slice_get (held_of (lines_of (drop l.at l.entries))) l.left ≡ slice_get (held_of (lines_of l.entries)) l.place
