use Rattle.std.proofs.Common.{◌≡◌, ◌+◌, ◌^◌, ◌<◌, ◌∙◌, sym, ap, arith}
use Rattle.pmsi_model.specs.Shared.{is_ready}
use Rattle.pend_buffers.specs.declared.Choice.TheVariants.{Idle as IdleChoice, Request as RequestChoice, Back as BackChoice}
use Rattle.pend_buffers.specs.Pending.{choice_of}
use Rattle.core_unit.proofs.ActsSlots.{IsDone, can_back, can_request, does_as, done, requests, slot_fits}
use Rattle.core_unit.proofs.state.State.act.Given.{Over}
use Rattle.core_unit.proofs.state.State.act.Goals.{Joined-choose, in-Idle, in-Request, in-Back}
use Rattle.core_unit.proofs.state.State.act.Goals as goal

pub request-action-requires-clause-can : goal.request-action-requires-clause-can
request-action-requires-clause-can g c = let v = c.args.self.now in let b = g.P.BusPort.side c.args.bus.now in let can = c.requires in λ want wants.
    can_request can.job v.slot can.core v b can.part can.bus can.own want wants
    (requests can.job v.slot can.core v b can.part can.bus can.own
    (sym c.choose.ensures ∙ c.in-Request.is))

pub write_back-action-requires-clause-first : goal.write_back-action-requires-clause-first
write_back-action-requires-clause-first g c = let v = c.args.self.now in let can = c.requires in
    can_back can.job v.slot can.core v (g.P.BusPort.side c.args.bus.now) can.part can.bus can.own

-- what was chosen is done
all : (g : Over) (c : Joined-choose g)
    → IsDone c.args.self.now (g.P.BusPort.side c.args.bus.now) c.match-choose.action c.match-choose.self (g.P.BusPort.side c.match-choose.bus)
all g c =
    let v = c.args.self.now in let b = g.P.BusPort.side c.args.bus.now in
    let action = c.match-choose.action in let w = c.match-choose.self in let after = g.P.BusPort.side c.match-choose.bus in
    let chose : choice_of (is_ready b.memory v.number) v.pending ≡ c.choose.result = sym c.choose.ensures in
    elim c.match-choose.branch [
      | in-Idle d ↦ done v b c.requires action w after IdleChoice (chose ∙ d.in-Idle.is) (d.action-is, d.self-is, ap g.P.BusPort.side d.bus-is ∙ d.idle.ensures)
      | in-Request d ↦ done v b c.requires action w after RequestChoice (chose ∙ d.in-Request.is)
          (does_as RequestChoice v b action d.request-action.result w d.request-action.new.self after (g.P.BusPort.side d.request-action.new.bus)
          d.action-is d.self-is (ap g.P.BusPort.side d.bus-is) d.request-action.ensures)
      | in-Back d ↦ done v b c.requires action w after BackChoice (chose ∙ d.in-Back.is)
          (does_as BackChoice v b action d.write_back-action.result w d.write_back-action.new.self after (g.P.BusPort.side d.write_back-action.new.bus)
          d.action-is d.self-is (ap g.P.BusPort.side d.bus-is) d.write_back-action.ensures)
    ]

pub overflow_add-self : goal.overflow_add-self
overflow_add-self g c = let b = g.P.BusPort.side c.args.bus.now in let after = g.P.BusPort.side c.match-choose.bus in
    let below : c.match-choose.self.slot + 1 < 2 ^ 32 =
    slot_fits c.args.self.now b c.match-choose.action c.match-choose.self after c.requires (all g c) in omega arith

pub returns-clause-acted : goal.returns-clause-acted
returns-clause-acted g c = (all g (goal.at.returns-clause-acted g c).Joined-choose).acted

pub returns-clause-keeps : goal.returns-clause-keeps
returns-clause-keeps g c = (all g (goal.at.returns-clause-keeps g c).Joined-choose).keeps

pub returns-clause-bus_keeps : goal.returns-clause-bus_keeps
returns-clause-bus_keeps g c = (all g (goal.at.returns-clause-bus_keeps g c).Joined-choose).bus_keeps
