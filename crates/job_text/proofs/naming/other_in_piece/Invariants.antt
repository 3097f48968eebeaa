use Rattle.std.proofs.Common.{◌≡◌, ◌+◌}
use Rattle.job_text.proofs.NamedCells.{AgreeTo}
use Rattle.job_text.proofs.naming.other_in_piece.Given as goal

abbrev pub invariant-loop-byte : goal.invariant-loop-byte
invariant-loop-byte l = record {
  at : l.address ≡ l.piece.address + l.byte-index;
  agree : AgreeTo l.piece l.cells l.address;
}
