use Rattle.std.proofs.Common.{◌≡◌, ◌+◌, ◌∷◌, []}
use Rattle.job_text.specs.Joins.{AreNamed}
use Rattle.job_text.proofs.NamedCells.{front}
use Rattle.job_text.proofs.naming.name_piece.Given as goal

abbrev pub invariant-loop-byte : goal.invariant-loop-byte
invariant-loop-byte l = record {
  at : l.address ≡ l.piece.address + l.byte-index;
  named : AreNamed l.fn.cells.items l.cells.items (front l.piece l.byte-index ∷ []);
}
