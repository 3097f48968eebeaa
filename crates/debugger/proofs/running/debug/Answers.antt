use Rattle.debugger.proofs.OneEnd.{faultless, out_of_memory, refused}
use Rattle.debugger.proofs.running.debug.Goals as goal

pub returns-in-Ok-clause-fails : goal.returns-in-Ok-clause-fails
returns-in-Ok-clause-fails c fault has = faultless c.args.job.now c.args.script.now c.in-Ok.text.items fault _ c.in-Ok.ensures.output has

pub returns-in-Err-clause-runs : goal.returns-in-Err-clause-runs
returns-in-Err-clause-runs c text is = out_of_memory c.args.job.now c.args.script.now text c.in-Err.fault c.in-Err.ensures.fault is

pub returns-in-Err-clause-fails : goal.returns-in-Err-clause-fails
returns-in-Err-clause-fails c fault has = refused c.args.job.now c.args.script.now c.in-Err.fault fault c.in-Err.ensures.fault has
