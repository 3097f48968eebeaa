use Rattle.std.proofs.Common.{ℕ, ◌≤◌, sym, ap, ◌∙◌, subst}
use Rattle.sim_serial.specs.Sims.{IsSim, SimValue, shape_of}
use Rattle.sim_serial.proofs.Sims.{within_slots}
use Rattle.sim_serial.proofs.sim.Sim.slot.Goals as goal

pub returns-clause-within : goal.returns-clause-within
returns-clause-within c = subst (λ (n : ℕ). n ≤ (shape_of c.args.self.now).slots) (sym (c.slot.ensures ∙ ap (λ (v : SimValue). v.bus.slot) c.self.view_is))
    (within_slots c.args.self.now (subst IsSim c.self.view_is c.self.invariant))
