-- The words that are decoded, in room for all.
use Rattle.std.proofs.Common.{◌≡◌, ◌≤◌, length, take}
use Rattle.std.specs.Vec.{vec_len, vec_capacity}
use Rattle.core_unit.proofs.program.Program.decoded.Given as goal

abbrev pub invariant-loop-word : goal.invariant-loop-word
invariant-loop-word l = record {
  decoded : l.items.items ≡ take l.word-index l.words;
  long : vec_len l.items ≡ l.word-index;
  room : length l.words ≤ vec_capacity l.items;
}
