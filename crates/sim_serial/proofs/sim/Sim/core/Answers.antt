-- A core has at most one row a slot.
use Rattle.std.proofs.Common.{◌<◌, sym, subst}
use Rattle.pmsi_model.specs.declared.job.Geometry.{Geometry}
use Rattle.core_unit.specs.Parts.{IsPart}
use Rattle.sim_serial.specs.Sims.{SimValue, shape_of}
use Rattle.sim_serial.proofs.Sims.{few_rows}
use Rattle.sim_serial.proofs.sim.Sim.core.Goals as goal

pub returns-clause-few : goal.returns-clause-few
returns-clause-few c = let job = c.self.invariant.job in let slot = c.self.inside.bus.slot in let at = c.self.invariant.at in
    let here = subst (λ (v : SimValue). c.args.c < (shape_of v).cores) (sym c.self.view_is) c.requires in
    let below = subst (λ (g : Geometry). c.args.c < g.cores) at.side.memory.shape here in
    few_rows job slot c.args.c c.index.result.now (subst (IsPart job slot c.args.c) (sym c.index.ensures) (at.parts.parts c.args.c c.index.result.now below))
