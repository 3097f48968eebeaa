-- What a bus keeps of its slots.
use Rattle.std.specs.Prelude.{◌≡◌, ℕ, ◌+◌, ◌-◌, ◌≤◌, List, length, slice_get, min, Bool, ◌&&◌, Option, None, if◌then◌else◌, nat_lt, nat_le}
use Rattle.pmsi_model.specs.declared.Action.{Action}
use Rattle.pmsi_model.specs.Slots.{SlotPlan, IsSlotPlan, gap_of}
use Rattle.pmsi_model.specs.Shared.{SharedValue, BusSide, IsShared}

-- the bus still knows the action of a slot: it is one of the slots before it, as many as lie between two own slots of a core
abbrev pub is_recent : SlotPlan → ℕ → ℕ → Bool
is_recent plan slot now = nat_lt slot now && nat_le now (slot + gap_of plan)

-- the action of a slot, which stands as far from the end of the last actions as the slot is before the bus's
abbrev pub recent_at : ℕ → BusSide → Option Action
recent_at slot b =
    if is_recent b.plan slot b.slot
    then slice_get b.recent (length b.recent - (b.slot - slot))
    else None

-- a bus by its parts
abbrev pub side_with : SharedValue → SlotPlan → ℕ → List Action → Bool → List Action → BusSide
side_with memory plan slot recent keeps trace =
    record { memory = memory; plan = plan; slot = slot; recent = recent; keeps = keeps; trace = trace }

-- the slots for which a bus keeps a trace
abbrev pub slots_kept : Bool → ℕ → ℕ
slots_kept keeps slots = if keeps then slots else 0

-- a bus has the last actions of its slots, and in its trace all of them or none
pub record IsBus (b : BusSide) : Type 0 where
  pub shared : IsShared b.memory
  pub plan : IsSlotPlan b.plan
  pub cores : b.plan.cores ≡ b.memory.shape.cores
  pub within : b.slot ≤ b.memory.shape.slots
  pub recent : length b.recent ≡ min b.slot (gap_of b.plan)
  pub trace : length b.trace ≡ slots_kept b.keeps b.slot
