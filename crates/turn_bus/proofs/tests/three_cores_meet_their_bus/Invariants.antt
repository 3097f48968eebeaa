use Rattle.turn_bus.specs.TestRuns.{AreHere}
use Rattle.turn_bus.proofs.tests.three_cores_meet_their_bus.Given as goal

abbrev pub invariant-loop-call : goal.invariant-loop-call
invariant-loop-call g l = AreHere l.machine.bus l.machine.job l.machine.seats.items l.machine.cores.items
