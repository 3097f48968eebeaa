use Rattle.std.proofs.Common.{◌≡◌, ◌≤◌, [], length}
use Rattle.pmsi_model.specs.declared.limits.TheConstants.{MAX_SLOTS}
use Rattle.trace_text.specs.Reading.{rows_in}
use Rattle.trace_text.proofs.reading.read_actions.Given as goal

abbrev pub invariant-loop-line : goal.invariant-loop-line
invariant-loop-line l = record {
  rest : rows_in l.cores [] l.fn.lines ≡ rows_in l.cores l.actions.items l.lines;
  few : length l.actions.items ≤ MAX_SLOTS;
}

abbrev pub decreases-loop-line : goal.decreases-loop-line
decreases-loop-line l = length l.lines
