use Rattle.tool_files.proofs.Ends.{one_end}
use Rattle.tool_files.proofs.laws.one_end.Goals as goal

pub returns : goal.returns
returns c = one_end
