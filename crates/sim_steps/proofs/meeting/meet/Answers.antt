use Rattle.std.proofs.Common.{rules, ◌≡◌, ℕ, Option, None, sym, subst}
use Rattle.pmsi_model.specs.declared.Action.{Action}
use Rattle.pmsi_model.specs.Job.{JobValue}
use Rattle.pmsi_model.specs.Slots.{plan_of, owner_of_slot}
use Rattle.sim_steps.specs.Meetings.{AreMeeting, IsMeeting, pair, standing}
use Rattle.sim_steps.proofs.Meetings.{IsRecordOf, owner_is, mine, others, can_act, acted, waits, can_snoop, snooped}
use Rattle.sim_steps.proofs.meeting.meet.Goals as goal
use Rattle.sim_steps.proofs.meeting.meet.Goals.{After-owner-owner}

owner_at : (c : After-owner-owner) (job : JobValue) (n count turn : ℕ) → AreMeeting job (standing n count turn) (pair c.args.core.now c.args.bus.now) →
    c.owner-owner.result ≡ owner_of_slot (plan_of job) count
owner_at c job n count turn at =
    owner_is job n count turn c.args.core.now c.args.bus.now at c.table.result.now c.slot-slot.result c.owner-owner.result
    c.table.ensures c.slot-slot.ensures c.owner-owner.ensures.owner

pub act-requires : goal.act-requires
act-requires c = let r = c.requires in
    let by = owner_at (goal.at.act-requires c).After-owner-owner r.job r.core r.count r.turn r.at in
    can_act r.job r.core r.count r.turn c.args.core.now c.args.bus.now r.at
    (mine r.job r.core r.count r.turn c.args.core.now c.args.bus.now r.at c.owner-owner.result by (search rules))

pub returns-then-owner-number : goal.returns-then-owner-number
returns-then-owner-number c = λ job n count turn at.
    let by = owner_at (goal.at.returns-then-owner-number c).After-owner-owner job n count turn at in
    acted job n count turn c.args.core.now c.args.bus.now at
    (mine job n count turn c.args.core.now c.args.bus.now at c.owner-owner.result by (search rules))
    c.act.result c.act.new.self c.act.new.bus c.act.ensures.acted c.act.ensures.keeps c.act.ensures.bus_keeps

pub returns-in_err-action : goal.returns-in_err-action
returns-in_err-action c = λ job n count turn at.
    let by = owner_at (goal.at.returns-in_err-action c).After-owner-owner job n count turn at in
    let none : c.record_at.result ≡ None = search rules in
    let answer : c.from_residual.result ≡ None = search rules in
    subst (λ (o : Option Action). IsMeeting job (standing n count turn) (pair c.args.core.now c.args.bus.now) (pair c.args.core.now c.args.bus.now) o)
    (sym answer)
    (waits job n count turn c.args.core.now c.args.bus.now at
    (others job n count turn c.args.core.now c.args.bus.now at c.owner-owner.result by (search rules))
    c.slot-slot.result c.slot-slot.ensures
    (subst (λ (o : Option Action). IsRecordOf c.args.bus.now c.slot-slot.result o) none c.record_at.ensures.of_job))

pub snoop-requires : goal.snoop-requires
snoop-requires c = let r = c.requires in
    let by = owner_at (goal.at.snoop-requires c).After-owner-owner r.job r.core r.count r.turn r.at in
    can_snoop r.job r.core r.count r.turn c.args.core.now c.args.bus.now r.at
    (others r.job r.core r.count r.turn c.args.core.now c.args.bus.now r.at c.owner-owner.result by (search rules))
    c.slot-slot.result c.in_ok-action.action c.slot-slot.ensures
    (subst (λ (o : Option Action). IsRecordOf c.args.bus.now c.slot-slot.result o) c.in_ok-action.was c.record_at.ensures.of_job)
    c.owner-owner.result by

pub returns : goal.returns
returns c = λ job n count turn at.
    let by = owner_at (goal.at.returns c).After-owner-owner job n count turn at in
    snooped job n count turn c.args.core.now c.args.bus.now at
    (others job n count turn c.args.core.now c.args.bus.now at c.owner-owner.result by (search rules))
    c.slot-slot.result c.in_ok-action.action c.slot-slot.ensures
    (subst (λ (o : Option Action). IsRecordOf c.args.bus.now c.slot-slot.result o) c.in_ok-action.was c.record_at.ensures.of_job)
    c.owner-owner.result c.snoop.new.self by c.snoop.ensures.snooped c.snoop.ensures.keeps
