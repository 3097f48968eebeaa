use Rattle.job_text.proofs.OneJoin.{joins_by, joins_faulty, refuses_faulty, refuses_job}
use Rattle.job_text.proofs.joining.join_job.Goals as goal

pub returns-in-Ok-clause-joins : goal.returns-in-Ok-clause-joins
returns-in-Ok-clause-joins c job is = joins_by c.args.shape c.args.images.now c.in-Ok.job job c.in-Ok.ensures.job is

pub returns-in-Ok-clause-fails : goal.returns-in-Ok-clause-fails
returns-in-Ok-clause-fails c fault has = joins_faulty c.args.shape c.args.images.now c.in-Ok.job fault c.in-Ok.ensures.job has

pub returns-in-Err-clause-joins : goal.returns-in-Err-clause-joins
returns-in-Err-clause-joins c job is = refuses_job c.args.shape c.args.images.now c.in-Err.fault job c.in-Err.ensures.fault is

pub returns-in-Err-clause-fails : goal.returns-in-Err-clause-fails
returns-in-Err-clause-fails c fault has = refuses_faulty c.args.shape c.args.images.now c.in-Err.fault fault c.in-Err.ensures.fault has
