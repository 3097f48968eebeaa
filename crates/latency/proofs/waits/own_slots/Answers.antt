-- The distance by the table and the slot of the bus.
use Rattle.std.proofs.Common.{sym, ap, ◌∙◌}
use Rattle.pmsi_model.specs.Slots.{SlotPlan, distance as distance_to_own, plan_of}
use Rattle.pmsi_model.proofs.Boundaries.{machine_at-slot}
use Rattle.latency.proofs.waits.own_slots.Goals as goal

pub returns-clause-value : goal.returns-clause-value
returns-clause-value c = λ job slot at.
    c.from.ensures ∙ c.distance.ensures.distance
    ∙ ap (λ (p : SlotPlan). distance_to_own p c.args.c c.slot.result) (c.table.ensures.table ∙ (c.bus.ensures.part job slot at).plan)
    ∙ ap (distance_to_own (plan_of job) c.args.c) (c.slot.ensures.machine job slot at ∙ sym (machine_at-slot job slot))
