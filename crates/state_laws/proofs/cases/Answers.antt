use Rattle.state_laws.proofs.Meanings.{states_are_cases}
use Rattle.state_laws.proofs.cases.Goals as goal

pub returns : goal.returns
returns c = states_are_cases
