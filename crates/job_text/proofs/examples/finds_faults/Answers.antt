use Rattle.job_text.proofs.ExampleTexts as texts
use Rattle.job_text.proofs.examples.finds_faults.Goals as goal

pub returns : goal.returns
returns c = texts.finds_faults
