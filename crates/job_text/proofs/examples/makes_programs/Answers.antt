use Rattle.job_text.proofs.ExampleTexts as texts
use Rattle.job_text.proofs.examples.makes_programs.Goals as goal

pub returns : goal.returns
returns c = texts.makes_programs
