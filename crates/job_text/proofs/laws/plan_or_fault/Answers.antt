use Rattle.job_text.proofs.EitherEnd.{either}
use Rattle.job_text.proofs.NoMemoryFaults as free
use Rattle.job_text.proofs.OneEnd.{one_plan}
use Rattle.job_text.proofs.laws.plan_or_fault.Goals as goal

pub returns-clause-one_plan : goal.returns-clause-one_plan
returns-clause-one_plan c = one_plan

pub returns-clause-either : goal.returns-clause-either
returns-clause-either c = either

pub returns-clause-never_memory : goal.returns-clause-never_memory
returns-clause-never_memory c = free.never_memory
