use Rattle.std.proofs.Common.{◌≡◌, ◌*◌, map}
use Rattle.std.specs.List.{range_with_len}
use Rattle.job_text.specs.Generating.{made_program, state_after}
use Rattle.job_text.proofs.generating.programs_of.Given as goal

abbrev pub invariant-loop : goal.invariant-loop
invariant-loop l = record {
  state : l.state ≡ state_after l.fn.seed (31 * l.counter);
  programs : l.programs.items ≡ map (made_program l.fn.seed) (range_with_len 0 l.counter);
}
