use Rattle.job_text.proofs.ExampleTexts as texts
use Rattle.job_text.proofs.examples.reads_texts.Goals as goal

pub returns : goal.returns
returns c = texts.reads_texts
