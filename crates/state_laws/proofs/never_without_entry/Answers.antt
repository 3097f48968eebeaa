use Rattle.state_laws.proofs.Phases.{never_without_entry}
use Rattle.state_laws.proofs.never_without_entry.Goals as goal

pub returns : goal.returns
returns c = never_without_entry
