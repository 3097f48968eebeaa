use Rattle.coherence_laws.proofs.Apart.{phases_are_apart}
use Rattle.coherence_laws.proofs.phases_are_apart.Goals as goal

pub returns : goal.returns
returns c = phases_are_apart
