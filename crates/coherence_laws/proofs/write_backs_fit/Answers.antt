use Rattle.coherence_laws.proofs.Counts.{write_backs_fit}
use Rattle.coherence_laws.proofs.write_backs_fit.Goals as goal

pub returns : goal.returns
returns c = write_backs_fit
