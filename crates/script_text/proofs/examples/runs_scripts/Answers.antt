use Rattle.script_text.proofs.Worked as worked
use Rattle.script_text.proofs.examples.runs_scripts.Goals as goal

pub returns : goal.returns
returns c = worked.runs_scripts
