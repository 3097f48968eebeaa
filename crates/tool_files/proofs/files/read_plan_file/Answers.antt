use Rattle.job_text.proofs.Exports.{plans_fit}
use Rattle.tool_files.proofs.files.read_plan_file.Goals as goal

pub returns-clause-plan : goal.returns-clause-plan
returns-clause-plan g c = plans_fit c.deref.result.now c.in_ok-plan_of.field-0 c.in_ok-plan_of.ensures.value
