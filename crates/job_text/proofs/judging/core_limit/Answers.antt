use Rattle.std.proofs.Common.{ap, ◌∙◌}
use Rattle.job_text.specs.declared.job_fault.HeadWord.TheVariants as head
use Rattle.job_text.specs.declared.job_fault.JobFault.TheVariants.{Limit}
use Rattle.std.specs.Prelude.{Some, None}
use Rattle.job_text.proofs.Judgings.{core_limit_of}
use Rattle.job_text.proofs.judging.core_limit.Goals as goal

pub returns-in-Some : goal.returns-in-Some
returns-in-Some c said has e = ap (λ n. Some (Limit (head.Core c.in-Some.core) n)) c.from.ensures ∙ core_limit_of said c.deref.result.now c.args.cores (Some c.in-Some.core) (c.deref.ensures.value ∙ has.cores) e c.in-Some.ensures

pub returns-in-None : goal.returns-in-None
returns-in-None c said has e = core_limit_of said c.deref.result.now c.args.cores None (c.deref.ensures.value ∙ has.cores) e c.in-None.ensures
