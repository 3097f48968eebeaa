use Rattle.core_unit.proofs.Evictions.{gone_with}
use Rattle.core_unit.proofs.state.State.evict.Goals as goal

pub change-requires : goal.change-requires
change-requires c = let g = gone_with c.args.line c.in_ok-victim.victim c.args.self.now c.in_ok-victim.ensures in (c.requires (c.in_ok-victim.victim, g.0) g.1).changes
