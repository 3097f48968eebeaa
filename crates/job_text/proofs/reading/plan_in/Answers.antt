use Rattle.job_text.specs.Cutting.{rows_of}
use Rattle.job_text.specs.Faults.{sayings_of}
use Rattle.job_text.proofs.WholeTexts.{no_text, rows_wrong, said_wrong, plan_is}
use Rattle.job_text.proofs.reading.plan_in.Goals as goal

pub returns-in_default-clause-fault : goal.returns-in_default-clause-fault
returns-in_default-clause-fault c free = no_text c.args.bytes.now c.in_default.ensures.cases.0

pub returns-in-Err-clause-fault : goal.returns-in-Err-clause-fault
returns-in-Err-clause-fault c free = rows_wrong c.args.bytes.now c.in-Ok.text.now c.in-Err.fault c.in-Ok.ensures.cases.0 c.in-Ok.ensures.cases.1 (c.in-Err.ensures.err free)

pub returns-in-Ok-plan_of-clause-plan : goal.returns-in-Ok-plan_of-clause-plan
returns-in-Ok-plan_of-clause-plan c =
    let rows = c.in-Ok-read_rows.ensures.ok in
    let made = c.in-Ok-plan_of.ensures.ok (sayings_of (rows_of c.in-Ok.text.now)) rows.1 in
    plan_is c.args.bytes.now c.in-Ok.text.now c.in-Ok-plan_of.plan c.in-Ok.ensures.cases.0 c.in-Ok.ensures.cases.1 rows.0 made.0 made.1 made.2

pub returns-in-Err-plan_of-clause-fault : goal.returns-in-Err-plan_of-clause-fault
returns-in-Err-plan_of-clause-fault c free =
    let rows = c.in-Ok-read_rows.ensures.ok in
    said_wrong c.args.bytes.now c.in-Ok.text.now c.in-Err-plan_of.fault c.in-Ok.ensures.cases.0 c.in-Ok.ensures.cases.1 rows.0 (c.in-Err-plan_of.ensures.err free (sayings_of (rows_of c.in-Ok.text.now)) rows.1)
