-- The cores that are copied, and the room for the rest.
use Rattle.std.proofs.Common.{◌≡◌, ◌≤◌, length, take}
use Rattle.std.specs.Vec.{vec_len, vec_capacity}
use Rattle.sim_serial.proofs.cores.copy_cores.Given as goal

abbrev pub invariant-loop-core : goal.invariant-loop-core
invariant-loop-core l = record {
  copied : l.copies.items ≡ take l.core-index l.cores;
  long : vec_len l.copies ≡ l.core-index;
  room : length l.cores ≤ vec_capacity l.copies;
}
