-- The earliest so far.
use Rattle.std.proofs.Common.{◌≡◌, take}
use Rattle.memory_lut.specs.Table.{soonest}
use Rattle.memory_lut.proofs.requests.soonest.Given as goal

abbrev pub invariant-loop-entry : goal.invariant-loop-entry
invariant-loop-entry l = l.first ≡ soonest l.line (take l.entry-index l.entries)
