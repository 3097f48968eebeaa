-- The next own slot of a core, and its law.
use Rattle.std.specs.Prelude.{◌≡◌, ◌≢◌, ℕ, ◌+◌, ◌-◌, ◌<◌, ◌≤◌}
use Rattle.pmsi_model.specs.Slots.{SlotPlan, owner_of_slot, gap_of, distance}

-- the least slot of the core that isn't below this one
pub record IsNextOwn (plan : SlotPlan) (core slot next : ℕ) : Type 0 where
  pub not_below : slot ≤ next
  pub own : owner_of_slot plan next ≡ core
  pub least : (t : ℕ) → slot ≤ t → t < next → owner_of_slot plan t ≢ core
  -- it comes within the gap
  pub soon : next < slot + gap_of plan

-- the distance counts the slots up to and including the next own one
abbrev pub DistanceToNextOwn : Type 0
DistanceToNextOwn = (plan : SlotPlan) (core slot next : ℕ) → IsNextOwn plan core slot next → distance plan core slot ≡ (next - slot) + 1
