use Rattle.pmsi_model.proofs.Worked.{byte_lanes}
use Rattle.pmsi_model.proofs.examples.byte_lanes.Goals as goal

pub returns : goal.returns
returns c = byte_lanes
