use Rattle.std.proofs.Common.{◌≡◌}
use Rattle.job_text.specs.Generating.{state_after}
use Rattle.job_text.proofs.Generations.{drawn}
use Rattle.job_text.proofs.generating.draw_text.Given as goal

abbrev pub invariant-loop : goal.invariant-loop
invariant-loop l = record {
  state : l.state ≡ state_after l.fn.state l.counter;
  words : l.words.items ≡ drawn l.fn.state l.counter;
}
