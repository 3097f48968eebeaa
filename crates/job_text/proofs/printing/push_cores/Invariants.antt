use Rattle.std.proofs.Common.{◌≡◌, ◌++◌, take}
use Rattle.job_text.specs.Plans.{core_lines}
use Rattle.job_text.proofs.printing.push_cores.Given as goal

abbrev pub invariant-loop-program : goal.invariant-loop-program
invariant-loop-program l = record {
  core : l.core ≡ l.program-index;
  text : l.out.items ≡ l.fn.out.items ++ core_lines 0 (take l.program-index l.programs);
}
