use Rattle.std.proofs.Common.{◌≤◌, ◌*◌, ◌^◌, take}
use Rattle.pmsi_model.specs.Lines.{waits_of}
use Rattle.listing.specs.Waits.{IsOf}
use Rattle.listing.proofs.waits.waits_of.Given as goal

abbrev pub invariant-loop-row : goal.invariant-loop-row
invariant-loop-row l = IsOf (waits_of l.core (take l.row-index l.rows)) l.waits × (l.waits.count ≤ l.row-index) × (l.waits.sum ≤ l.waits.count * 2 ^ 32)
