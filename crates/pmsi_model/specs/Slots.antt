-- Whose slot it is, by time division: the plan of a job gives the number of cores, and these own the slots in turn. A bus
-- period is as many slots. Everything else asks the plan, by the definitions of this file.
use Rattle.std.specs.Prelude.{ℕ, zero, suc, ◌+◌, ◌-◌, ◌*◌, ◌%◌, ◌^◌, ◌≤◌, ◌==◌, if◌then◌else◌, nat_le}
use Rattle.pmsi_model.specs.declared.limits.TheConstants.{MAX_CORES}
use Rattle.pmsi_model.specs.Job.{JobValue}

pub record SlotPlan : Type 0 where
  pub cores : ℕ

-- so many cores own one slot each of a period, by their number
abbrev pub plain_plan : ℕ → SlotPlan
plain_plan cores = record { cores = cores }

abbrev pub plan_of : JobValue → SlotPlan
plan_of job = plain_plan job.shape.cores

-- there are cores, and no more than the limit
pub record IsSlotPlan (plan : SlotPlan) : Type 0 where
  pub some : 1 ≤ plan.cores
  pub few : plan.cores ≤ MAX_CORES

-- the core that owns a slot
abbrev pub owner_of_slot : SlotPlan → ℕ → ℕ
owner_of_slot plan slot = slot % plan.cores

-- the greatest number of slots from an own slot of a core to its next own one
abbrev pub gap_of : SlotPlan → ℕ
gap_of plan = plan.cores

-- the slots from this one up to and including the core's next own one: from 1 to the gap
abbrev pub distance : SlotPlan → ℕ → ℕ → ℕ
distance plan core slot =
    if nat_le (owner_of_slot plan slot) core
    then (core - owner_of_slot plan slot) + 1
    else ((core + plan.cores) - owner_of_slot plan slot) + 1

-- a core's own slots among the first slots
unfoldable pub own_slots : SlotPlan → ℕ → ℕ → ℕ
own_slots plan core zero = 0
own_slots plan core (suc slot) = own_slots plan core slot + (if owner_of_slot plan slot == core then 1 else 0)

-- the bound on the latency of a request in slots, that of the miss and that of the fill counted
abbrev pub bound_of : SlotPlan → ℕ
bound_of plan = 2 * gap_of plan * (plan.cores + 1) ^ 2
