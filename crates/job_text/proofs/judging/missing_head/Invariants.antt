use Rattle.std.proofs.Common.{◌≡◌, List, drop, option_map}
use Rattle.std.specs.Prelude.{is_none}
use Rattle.std.specs.List.{find}
use Rattle.job_text.specs.declared.job_fault.JobFault.TheVariants.{Missing}
use Rattle.job_text.specs.declared.saying.Saying.{Saying}
use Rattle.job_text.specs.Faults.{all_heads, missing_head, number_of}
use Rattle.job_text.specs.Gathering.{HasSaid}
use Rattle.job_text.proofs.judging.missing_head.Given as goal

abbrev pub invariant-loop-word : goal.invariant-loop-word
invariant-loop-word l = (said : List Saying) → HasSaid l.gathered said → missing_head said ≡ option_map Missing (find (λ word. is_none (number_of word said)) (drop l.word-index all_heads))
