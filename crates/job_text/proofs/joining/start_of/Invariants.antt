use Rattle.std.proofs.Common.{◌≡◌, ◌<◌, map, take}
use Rattle.std.specs.List.{All}
use Rattle.std.specs.Option.{unwrap_or}
use Rattle.job_text.proofs.joining.start_of.Given as goal

abbrev pub invariant-loop-cell : goal.invariant-loop-cell
invariant-loop-cell l = record {
  cells : l.start.items ≡ map (λ cell. unwrap_or cell 0) (take l.cell-index l.cells);
  bytes : All (λ byte. byte < 256) l.start.items;
}
