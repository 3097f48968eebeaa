use Rattle.std.proofs.Common.{◌≡◌, ◌<◌, ℕ, get_or}
use Rattle.core_unit.specs.declared.state.State.{State}
use Rattle.turn_bus.proofs.tests.Machine.close.Given as goal

abbrev pub invariant-loop-c : goal.invariant-loop-c
invariant-loop-c g l = (c : ℕ) (v : State) → c < l.c → (get_or l.self.cores.items c v).slot ≡ l.slots
