use Rattle.std.proofs.Common.{ℕ, Option, ◌∙◌, sym, subst}
use Rattle.core_unit.specs.Acts.{CanRequest}
use Rattle.core_unit.proofs.state.State.request.Goals as goal

pub post-requires-clause-can : goal.post-requires-clause-can
post-requires-clause-can g c = subst (λ (o : Option ℕ). CanRequest o c.in-Some.want c.args.self.now (g.P.BusPort.side c.args.bus.now).memory) c.in-None.is
    (c.requires.can c.in-Some.want (sym c.want.ensures ∙ c.in-Some.is))

pub fill-requires-clause-can : goal.fill-requires-clause-can
fill-requires-clause-can g c = subst (λ (o : Option ℕ). CanRequest o c.in-Some.want c.args.self.now (g.P.BusPort.side c.args.bus.now).memory) c.in-Some-post.is
    (c.requires.can c.in-Some.want (sym c.want.ensures ∙ c.in-Some.is))
