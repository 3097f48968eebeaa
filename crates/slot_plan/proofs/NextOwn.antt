-- The slot at a core's distance is its next own one.
use Rattle.std.proofs.Common.{◌≡◌, ◌≢◌, ℕ, zero, suc, ◌+◌, ◌-◌, ◌<◌, ◌≤◌, ap, ◌∙◌, sym, arith, subst}
use mathlib.Core.Logic.{dite}
use native.Mathlib.Decide.{ℕ_discrete}
use Rattle.pmsi_model.specs.Slots.{SlotPlan, owner_of_slot, distance}
use Rattle.slot_plan.specs.Plans.{IsNextOwn, DistanceToNextOwn}
use Rattle.pmsi_model.proofs.Distances.{distance_some, distance_within, distance_own, distance_falls, slot_owner_below}

-- a slot at distance 1 is an own one
own_at_one : (plan : SlotPlan) (c slot : ℕ) → c < plan.cores → distance plan c slot ≡ 1 → owner_of_slot plan slot ≡ c
own_at_one plan c slot below one = let p = slot_owner_below plan slot (omega arith) in grind arith

not_own : (plan : SlotPlan) (c slot : ℕ) → distance plan c slot ≢ 1 → owner_of_slot plan slot ≢ c
not_own plan c slot more own = more (distance_own plan c slot own)

-- until the next own slot the distance falls by one with each slot
falls_to : (plan : SlotPlan) (c slot k : ℕ) → c < plan.cores → k < distance plan c slot → distance plan c (slot + k) + k ≡ distance plan c slot
falls_to plan c slot zero below within =
    let s : slot + 0 ≡ slot = omega arith in
    let d : distance plan c (slot + 0) ≡ distance plan c slot = ap (distance plan c) s in
    omega arith
falls_to plan c slot (suc k) below within =
    let h : distance plan c (slot + k) + k ≡ distance plan c slot = falls_to plan c slot k below (omega arith) in
    let e : distance plan c (slot + k + 1) + 1 ≡ distance plan c (slot + k) = distance_falls plan c (slot + k) below (not_own plan c (slot + k) (omega arith)) in
    let s : slot + suc k ≡ slot + k + 1 = omega arith in
    let d : distance plan c (slot + suc k) ≡ distance plan c (slot + k + 1) = ap (distance plan c) s in
    omega arith

-- a slot before it isn't an own one
none_before : (plan : SlotPlan) (c slot k : ℕ) → c < plan.cores → k + 1 < distance plan c slot → owner_of_slot plan (slot + k) ≢ c
none_before plan c slot k below before =
    let h : distance plan c (slot + k) + k ≡ distance plan c slot = falls_to plan c slot k below (omega arith) in
    not_own plan c (slot + k) (omega arith)

least_own : (plan : SlotPlan) (c slot next t : ℕ) → c < plan.cores → next + 1 ≡ slot + distance plan c slot → slot ≤ t → t < next → owner_of_slot plan t ≢ c
least_own plan c slot next t below at from before =
    let s : slot + (t - slot) ≡ t = omega arith in
    subst (λ (n : ℕ). owner_of_slot plan n ≢ c) s (none_before plan c slot (t - slot) below (omega arith))

own_next : (plan : SlotPlan) (c slot next : ℕ) → c < plan.cores → next + 1 ≡ slot + distance plan c slot → owner_of_slot plan next ≡ c
own_next plan c slot next below at =
    let some : 1 ≤ distance plan c slot = distance_some plan c slot in
    let h : distance plan c (slot + (next - slot)) + (next - slot) ≡ distance plan c slot = falls_to plan c slot (next - slot) below (omega arith) in
    let s : slot + (next - slot) ≡ next = omega arith in
    let e : distance plan c (slot + (next - slot)) ≡ 1 = omega arith in
    ap (owner_of_slot plan) (sym s) ∙ own_at_one plan c (slot + (next - slot)) below e

pub next_at_distance : (plan : SlotPlan) (c slot next : ℕ) → c < plan.cores → next + 1 ≡ slot + distance plan c slot → IsNextOwn plan c slot next
next_at_distance plan c slot next below at =
    let some : 1 ≤ distance plan c slot = distance_some plan c slot in
    let within : distance plan c slot ≤ plan.cores = distance_within plan c slot below in
    record {
      not_below = omega arith;
      own = own_next plan c slot next below at;
      least = λ t from before. least_own plan c slot next t below at from before;
      soon = omega arith;
    }

-- there is one next own slot
one_next : (plan : SlotPlan) (c slot next other : ℕ) → IsNextOwn plan c slot next → IsNextOwn plan c slot other → next ≡ other
one_next plan c slot next other is also = dite (ℕ_discrete next other)
    (λ same. same)
    (λ differ. let a = is.least other also.not_below in let b = also.least next is.not_below in let o = is.own in let p = also.own in grind arith)

core_below : (plan : SlotPlan) (c slot next : ℕ) → IsNextOwn plan c slot next → c < plan.cores
core_below plan c slot next is = let from = is.not_below in let soon = is.soon in
    subst (λ (n : ℕ). n < plan.cores) is.own (slot_owner_below plan next (omega arith))

pub distance_to_next : DistanceToNextOwn
distance_to_next plan c slot next is =
    let below : c < plan.cores = core_below plan c slot next is in
    let some : 1 ≤ distance plan c slot = distance_some plan c slot in
    let at : slot + (distance plan c slot - 1) + 1 ≡ slot + distance plan c slot = omega arith in
    let same : next ≡ slot + (distance plan c slot - 1) = one_next plan c slot next (slot + (distance plan c slot - 1)) is (next_at_distance plan c slot (slot + (distance plan c slot - 1)) below at) in
    omega arith
