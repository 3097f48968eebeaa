use Rattle.tool_files.proofs.Follows.{same_order}
use Rattle.tool_files.proofs.Sames.{same_course}
use Rattle.tool_files.proofs.laws.same_order.Goals as goal

pub returns : goal.returns
returns c = record { course = same_course; order = same_order }
