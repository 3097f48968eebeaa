use Rattle.core_worker.specs.Members.{IsRound}
use Rattle.core_worker.proofs.worker.go_round.Given as goal

abbrev pub invariant-loop-k : goal.invariant-loop-k
invariant-loop-k g l = IsRound l.bus l.fn.members l.members l.k l.round.slots_left
