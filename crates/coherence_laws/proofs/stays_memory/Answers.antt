use Rattle.coherence_laws.proofs.ApartMemory.{stays_memory}
use Rattle.coherence_laws.proofs.stays_memory.Goals as goal

pub returns : goal.returns
returns c = stays_memory
