use Rattle.job_text.proofs.EitherJoin as ends
use Rattle.job_text.proofs.OneJoin as joins
use Rattle.job_text.proofs.laws.job_or_fault.Goals as goal

pub returns-clause-one_job : goal.returns-clause-one_job
returns-clause-one_job c = joins.one_job

pub returns-clause-one_fault : goal.returns-clause-one_fault
returns-clause-one_fault c = joins.one_join_fault

pub returns-clause-not_both : goal.returns-clause-not_both
returns-clause-not_both c = joins.not_both

pub returns-clause-either : goal.returns-clause-either
returns-clause-either c = ends.either
