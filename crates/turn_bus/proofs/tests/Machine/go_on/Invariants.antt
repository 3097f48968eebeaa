use Rattle.turn_bus.specs.TestRuns.{AreHere}
use Rattle.turn_bus.proofs.tests.Machine.go_on.Given as goal

abbrev pub invariant-loop-slot : goal.invariant-loop-slot
invariant-loop-slot g l = AreHere l.self.bus l.self.job l.self.seats.items l.self.cores.items
