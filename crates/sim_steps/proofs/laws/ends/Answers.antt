use Rattle.sim_steps.proofs.Ends.{ends_are_alike, ends_are_equal}
use Rattle.sim_steps.proofs.laws.ends.Goals as goal

pub returns : goal.returns
returns c = record { alike = ends_are_alike; equal = ends_are_equal }
