use Rattle.waiting_laws.proofs.Slots.{always_bounded}
use Rattle.waiting_laws.proofs.always_bounded.Goals as goal

pub returns : goal.returns
returns c = always_bounded
