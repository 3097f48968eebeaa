-- The items that are copied, in as great a room.
use Rattle.std.proofs.Common.{◌≡◌, take}
use Rattle.std.specs.Vec.{vec_len, vec_capacity}
use Rattle.core_unit.proofs.reserved.ReservedList.copy.Given as goal

abbrev pub invariant-loop-item : goal.invariant-loop-item
invariant-loop-item g l = record {
  copied : l.items.items ≡ take l.item-index l.item-items;
  long : vec_len l.items ≡ l.item-index;
  room : vec_capacity l.items ≡ l.self.room;
}
