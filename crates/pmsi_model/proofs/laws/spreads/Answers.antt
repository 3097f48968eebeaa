use Rattle.pmsi_model.proofs.Spreads.{meets_fit, meets_are_steps, spreads_fit}
use Rattle.pmsi_model.proofs.laws.spreads.Goals as goal

pub returns : goal.returns
returns c = record { meets = meets_fit; steps = meets_are_steps; fit = spreads_fit }
