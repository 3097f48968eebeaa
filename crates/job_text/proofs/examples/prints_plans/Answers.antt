use Rattle.job_text.proofs.ExampleTexts as texts
use Rattle.job_text.proofs.examples.prints_plans.Goals as goal

pub returns : goal.returns
returns c = texts.prints_plans
