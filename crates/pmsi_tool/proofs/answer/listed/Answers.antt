use Rattle.std.proofs.Common.{◌∙◌, subst}
use Rattle.std.specs.Prelude.{Bool}
use Rattle.sim_serial.specs.Cores.{CoresKeep}
use Rattle.pmsi_tool.proofs.answer.listed.Goals as goal

pub listing-requires-clause-kept : goal.listing-requires-clause-kept
listing-requires-clause-kept c = record {
  trace = λ is. c.requires.keeps.trace ∙ is;
  touches = λ is. subst (λ (b : Bool). CoresKeep b c.args.sim.now.cores) is c.requires.keeps.touches;
}
