use Rattle.std.proofs.Common.{◌≡◌, ◌≤◌, length}
use Rattle.pmsi_outside.proofs.Progress.{Writing}
use Rattle.pmsi_outside.proofs.whole.write_whole.Given as goal

abbrev pub invariant-loop-rest : goal.invariant-loop-rest
invariant-loop-rest g l = record {
  later : g.S.Sink.faults l.fn.sink ≤ g.S.Sink.faults l.sink;
  written : Writing (g.S.Sink.held l.fn.sink) (g.S.Sink.held l.sink) l.bytes l.rest;
  untouched : length l.bytes ≡ 0 → l.sink ≡ l.fn.sink;
}

abbrev pub decreases-loop-rest : goal.decreases-loop-rest
decreases-loop-rest g l = length l.rest
