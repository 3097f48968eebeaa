use Rattle.std.proofs.Common.{◌≡◌, List, drop, option_map}
use Rattle.std.specs.Prelude.{is_none}
use Rattle.std.specs.List.{find, range_with_len}
use Rattle.job_text.specs.declared.job_fault.HeadWord.TheVariants as head
use Rattle.job_text.specs.declared.job_fault.JobFault.TheVariants.{Missing}
use Rattle.job_text.specs.declared.saying.Saying.{Saying}
use Rattle.job_text.specs.Faults.{missing_core, program_of, value_of}
use Rattle.job_text.specs.Gathering.{HasSaid}
use Rattle.job_text.proofs.judging.missing_core.Given as goal

abbrev pub invariant-loop-core : goal.invariant-loop-core
invariant-loop-core l = (said : List Saying) → HasSaid l.gathered said → l.cores ≡ value_of head.Cores said
    → missing_core said ≡ option_map (λ core. Missing (head.Core core)) (find (λ core. is_none (program_of core said)) (drop l.core (range_with_len 0 l.cores)))
