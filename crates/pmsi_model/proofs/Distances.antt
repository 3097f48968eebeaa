-- The distance to a core's next own slot: from 1 to the gap; 1 at an own slot; else it falls by one with each slot.
use Rattle.std.proofs.Common.{◌≡◌, ◌≢◌, ℕ, ◌+◌, ◌*◌, ◌/◌, ◌%◌, ◌<◌, ◌≤◌, ap, ◌∙◌, arith}
use Rattle.std.proofs.lemmas.Nat.{div-add-mod', mod-mul-add, mod_below}
use mathlib.Core.Logic.{dite}
use native.Mathlib.Decide.{ℕ_discrete}
use Rattle.pmsi_model.specs.Slots.{SlotPlan, owner_of_slot, gap_of, distance}

residue_more : (slot cores : ℕ) → slot % cores + 1 < cores → (slot + 1) % cores ≡ slot % cores + 1
residue_more slot cores h = let e = div-add-mod' slot cores in let q : ℕ = slot / cores * cores in let p : ℕ = slot % cores in
    let e' : q + p ≡ slot = e in let s : slot + 1 ≡ q + (p + 1) = omega arith in
    ap (λ (n : ℕ). n % cores) s ∙ mod-mul-add (slot / cores) cores (p + 1) h

residue_last : (slot cores : ℕ) → 0 < cores → slot % cores + 1 ≡ cores → (slot + 1) % cores ≡ 0
residue_last slot cores some h = let e = div-add-mod' slot cores in let q : ℕ = slot / cores * cores in let p : ℕ = slot % cores in
    let e' : q + p ≡ slot = e in let m : (slot / cores + 1) * cores ≡ q + cores = grind arith in
    let s : slot + 1 ≡ (slot / cores + 1) * cores + 0 = omega arith in
    ap (λ (n : ℕ). n % cores) s ∙ mod-mul-add (slot / cores + 1) cores 0 some

pub distance_some : (plan : SlotPlan) (c slot : ℕ) → 1 ≤ distance plan c slot
distance_some plan c slot = grind arith

pub distance_within : (plan : SlotPlan) (c slot : ℕ) → c < plan.cores → distance plan c slot ≤ gap_of plan
distance_within plan c slot below = let p = mod_below slot plan.cores (omega arith) in grind arith

pub distance_own : (plan : SlotPlan) (c slot : ℕ) → owner_of_slot plan slot ≡ c → distance plan c slot ≡ 1
distance_own plan c slot own = grind arith

distance_falls_below : (plan : SlotPlan) (c slot : ℕ) → c < plan.cores → owner_of_slot plan slot < plan.cores → owner_of_slot plan slot ≢ c
    → distance plan c (slot + 1) + 1 ≡ distance plan c slot
distance_falls_below plan c slot below p other = dite (ℕ_discrete (slot % plan.cores + 1) plan.cores)
    (λ last. let next = residue_last slot plan.cores (omega arith) last in grind arith)
    (λ more. let next = residue_more slot plan.cores (omega arith) in grind arith)

pub distance_falls : (plan : SlotPlan) (c slot : ℕ) → c < plan.cores → owner_of_slot plan slot ≢ c
    → distance plan c (slot + 1) + 1 ≡ distance plan c slot
distance_falls plan c slot below other = distance_falls_below plan c slot below (mod_below slot plan.cores (omega arith)) other

-- the owner of a slot is some core
pub slot_owner_below : (plan : SlotPlan) (slot : ℕ) → 0 < plan.cores → owner_of_slot plan slot < plan.cores
slot_owner_below plan slot some = mod_below slot plan.cores some
