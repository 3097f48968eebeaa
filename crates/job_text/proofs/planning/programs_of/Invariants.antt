use Rattle.std.proofs.Common.{◌≡◌, List}
use Rattle.job_text.specs.declared.job_fault.HeadWord.TheVariants as head
use Rattle.job_text.specs.declared.saying.Saying.{Saying}
use Rattle.job_text.specs.Faults.{value_of}
use Rattle.job_text.specs.Gathering.{HasSaid}
use Rattle.job_text.proofs.Makings.{IsTaken}
use Rattle.job_text.proofs.planning.programs_of.Given as goal

abbrev pub invariant-loop-core : goal.invariant-loop-core
invariant-loop-core l = (said : List Saying) → HasSaid l.fn.gathered said → l.cores ≡ value_of head.Cores said → IsTaken said l.cores l.core-counter l.left l.programs.items
