use Rattle.core_worker.specs.Members.{AreMembers, GoOn}
use Rattle.core_worker.proofs.worker.work.Given as goal

abbrev pub invariant-loop : goal.invariant-loop
invariant-loop g l = AreMembers l.bus l.members × GoOn l.bus l.initial.members l.members × (goal.iterator-loop g).can_next l.iterator' × (goal.iterator-loop g).is_finite l.iterator'
