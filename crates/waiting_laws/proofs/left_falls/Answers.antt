use Rattle.waiting_laws.proofs.Slots.{left_falls}
use Rattle.waiting_laws.proofs.left_falls.Goals as goal

pub returns : goal.returns
returns c = left_falls
