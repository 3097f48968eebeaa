use Rattle.std.proofs.Common.{◌≡◌, ◌≤◌, take}
use Rattle.turn_bus.proofs.about.copy_of.Given as goal

abbrev pub invariant-loop-core : goal.invariant-loop-core
invariant-loop-core l = record {
  texts : l.texts.items ≡ take l.core l.job.texts;
  room : l.job.shape.cores ≤ l.texts.cap;
}
