use Rattle.rv_decode.proofs.Encoded.{has_row}
use Rattle.rv_decode.proofs.encoder.tests.encodes.Goals as goal

pub encode-requires : goal.encode-requires
encode-requires g c = has_row _ c.requires
