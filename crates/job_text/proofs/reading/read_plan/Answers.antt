use Rattle.job_text.proofs.OneEnd.{reads_by, refuses_plan, reads_faulty, refuses_faulty}
use Rattle.job_text.proofs.reading.read_plan.Goals as goal

pub returns-in-Ok-clause-reads : goal.returns-in-Ok-clause-reads
returns-in-Ok-clause-reads c plan is = reads_by c.args.bytes.now c.in-Ok.plan plan c.in-Ok.ensures.plan is

pub returns-in-Ok-clause-fails : goal.returns-in-Ok-clause-fails
returns-in-Ok-clause-fails c fault has = reads_faulty c.args.bytes.now c.in-Ok.plan fault c.in-Ok.ensures.plan has

pub returns-in-Err-clause-reads : goal.returns-in-Err-clause-reads
returns-in-Err-clause-reads c plan is = refuses_plan c.args.bytes.now c.in-Err.fault plan c.in-Err.ensures.fault is

pub returns-in-Err-clause-fails : goal.returns-in-Err-clause-fails
returns-in-Err-clause-fails c fault has = refuses_faulty c.args.bytes.now c.in-Err.fault fault c.in-Err.ensures.fault has
