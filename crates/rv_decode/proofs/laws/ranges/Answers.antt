use Rattle.rv_decode.proofs.Encoded.{ranges_are_rows}
use Rattle.rv_decode.proofs.laws.ranges.Goals as goal

pub returns : goal.returns
returns c = ranges_are_rows
