use Rattle.std.proofs.Common.{◌≡◌, take}
use Rattle.std.specs.Prelude.{nat_le}
use Rattle.std.specs.List.{filter}
use Rattle.job_text.specs.Faults.{least}
use Rattle.job_text.proofs.judging.least_from.Given as goal

abbrev pub invariant-loop-number : goal.invariant-loop-number
invariant-loop-number l = l.least ≡ least (filter (λ number. nat_le l.start number) (take l.number-index l.numbers))
