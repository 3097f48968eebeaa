use Rattle.std.proofs.Common.{◌≡◌, ◌++◌, take}
use Rattle.std.specs.List.{flat_map}
use Rattle.listing.specs.Pieces.{piece_text, past_piece}
use Rattle.listing.proofs.Advances.{advanced}
use Rattle.listing.proofs.rests.push_pieces.Given as goal

abbrev pub invariant-loop-c : goal.invariant-loop-c
invariant-loop-c l = record {
  text : l.out.items ≡ l.fn.out.items ++ flat_map (piece_text l.piece l.slot) (take l.c l.fn.rests);
  rests : l.rests ≡ advanced (past_piece l.piece l.slot) l.c l.fn.rests;
}
