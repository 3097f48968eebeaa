use Rattle.std.proofs.Common.{sym, subst}
use Rattle.core_unit.specs.Parts.{CanPhase, IsCore}
use Rattle.core_unit.proofs.Quanta.{can_phase}
use Rattle.core_unit.proofs.unit.Core.phase.Goals as goal

pub phase-requires : goal.phase-requires
phase-requires c = subst CanPhase (sym c.self.view_is) (can_phase c.args.self.now (subst IsCore c.self.view_is c.self.invariant) c.requires.fresh c.requires.more)
