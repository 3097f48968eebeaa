use Rattle.waiting_laws.proofs.Slots.{starts_below_bound}
use Rattle.waiting_laws.proofs.starts_below_bound.Goals as goal

pub returns : goal.returns
returns c = starts_below_bound
