use Rattle.std.proofs.Common.{◌≡◌, ◌≤◌, length}
use Rattle.std.specs.Vec.{vec_len, vec_capacity}
use Rattle.core_unit.proofs.Openings.{AreOpen}
use Rattle.core_unit.proofs.opening.open_cores.Given as goal

abbrev pub invariant-loop-c : goal.invariant-loop-c
invariant-loop-c l = record {
  many : length l.cores.items ≡ l.c;
  long : vec_len l.cores ≡ l.c;
  room : l.count ≤ vec_capacity l.cores;
  ready : AreOpen l.job l.keep.touches l.c l.cores.items;
}
