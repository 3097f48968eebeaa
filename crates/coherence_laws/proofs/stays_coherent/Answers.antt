use Rattle.coherence_laws.proofs.Slots.{stays_coherent}
use Rattle.coherence_laws.proofs.stays_coherent.Goals as goal

pub returns : goal.returns
returns c = stays_coherent
