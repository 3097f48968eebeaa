-- From one next own slot to the next, the own slots are one more.
use Rattle.std.proofs.Common.{◌≡◌, ℕ, ◌+◌, ◌<◌, ◌≤◌, sym, ◌∙◌, ap, arith}
use Rattle.pmsi_model.specs.Slots.{SlotPlan, own_slots}
use Rattle.pmsi_model.proofs.OwnSlots.{own_none, own_here, own_between, own_within}
use Rattle.slot_plan.specs.Plans.{IsNextOwn}

-- so many own slots were counted among the first `from`, and `slot` is the next one
pub record IsCounted (plan : SlotPlan) (c slots slot count : ℕ) : Type 0 where
  pub from : ℕ
  pub within : from ≤ slots
  pub next : IsNextOwn plan c from slot
  pub counted : count ≡ own_slots plan c from

pub starts : (plan : SlotPlan) (c slots slot : ℕ) → IsNextOwn plan c 0 slot → IsCounted plan c slots slot 0
starts plan c slots slot is = record { from = 0; within = omega arith; next = is; counted = sym (own_none plan c) }

-- the next own slot counts
pub one_more : (plan : SlotPlan) (c slots slot next count : ℕ) → IsCounted plan c slots slot count → slot < slots → IsNextOwn plan c (slot + 1) next
    → IsCounted plan c slots next (count + 1)
one_more plan c slots slot next count at before is = record {
  from = slot + 1;
  within = omega arith;
  next = is;
  counted = ap (λ (n : ℕ). n + 1) (at.counted ∙ sym (own_between plan c at.from slot at.next.not_below at.next.least)) ∙ sym (own_here plan c slot at.next.own);
}

pub all_counted : (plan : SlotPlan) (c slots slot count : ℕ) → IsCounted plan c slots slot count → slots ≤ slot → count ≡ own_slots plan c slots
all_counted plan c slots slot count at past =
    at.counted ∙ sym (own_between plan c at.from slots at.within (λ t from before. at.next.least t from (omega arith)))

pub few : (plan : SlotPlan) (c slots slot count : ℕ) → IsCounted plan c slots slot count → count ≤ slots
few plan c slots slot count at = let w = own_within plan c at.from in let n = at.counted in let p = at.within in omega arith

pub later : (plan : SlotPlan) (c slot next : ℕ) → IsNextOwn plan c (slot + 1) next → slot < next
later plan c slot next is = let from = is.not_below in omega arith
