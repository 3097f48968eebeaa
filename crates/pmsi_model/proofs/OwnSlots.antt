-- How a core's own slots are counted.
use Rattle.std.proofs.Common.{arith, ◌≡◌, ◌≢◌, ℕ, zero, suc, ◌+◌, ◌-◌, ◌<◌, ◌≤◌, ◌==◌, if◌then◌else◌, refl, ap, subst, ◌∙◌, add-one}
use Rattle.pmsi_model.specs.Slots.{SlotPlan, owner_of_slot, own_slots}

pub own_none : (plan : SlotPlan) (c : ℕ) → own_slots plan c 0 ≡ 0
unfolding own_slots
own_none plan c = refl

pub own_more : (plan : SlotPlan) (c slot : ℕ) → own_slots plan c (slot + 1) ≡ own_slots plan c slot + (if owner_of_slot plan slot == c then 1 else 0)
unfolding own_slots
own_more plan c slot = rw add-one refl

-- an own slot counts
pub own_here : (plan : SlotPlan) (c slot : ℕ) → owner_of_slot plan slot ≡ c → own_slots plan c (slot + 1) ≡ own_slots plan c slot + 1
own_here plan c slot own = grind (arith, own_more plan c slot, own)

-- and no other does
pub own_else : (plan : SlotPlan) (c slot : ℕ) → owner_of_slot plan slot ≢ c → own_slots plan c (slot + 1) ≡ own_slots plan c slot
own_else plan c slot other = grind (arith, own_more plan c slot, other)

pub own_grows : (plan : SlotPlan) (c slot : ℕ) → own_slots plan c slot ≤ own_slots plan c (slot + 1)
own_grows plan c slot = grind (arith, own_more plan c slot)

own_after : (plan : SlotPlan) (c slot more : ℕ) → own_slots plan c slot ≤ own_slots plan c (slot + more)
own_after plan c slot zero = let same : slot + 0 ≡ slot = omega arith in let e = ap (own_slots plan c) same in omega arith
own_after plan c slot (suc more) =
    let before : own_slots plan c slot ≤ own_slots plan c (slot + more) = own_after plan c slot more in
    let last : own_slots plan c (slot + more) ≤ own_slots plan c (slot + more + 1) = own_grows plan c (slot + more) in
    let same : slot + suc more ≡ slot + more + 1 = omega arith in
    let e : own_slots plan c (slot + suc more) ≡ own_slots plan c (slot + more + 1) = ap (own_slots plan c) same in
    omega arith

-- more slots have no fewer own ones
pub own_monotone : (plan : SlotPlan) (c slot later : ℕ) → slot ≤ later → own_slots plan c slot ≤ own_slots plan c later
own_monotone plan c slot later from =
    let same : slot + (later - slot) ≡ later = omega arith in
    subst (λ (n : ℕ). own_slots plan c slot ≤ own_slots plan c n) same (own_after plan c slot (later - slot))

-- no more slots are own ones than there are
pub own_within : (plan : SlotPlan) (c slot : ℕ) → own_slots plan c slot ≤ slot
own_within plan c zero = let none = own_none plan c in omega arith
own_within plan c (suc slot) =
    let before : own_slots plan c slot ≤ slot = own_within plan c slot in
    let last : own_slots plan c (slot + 1) ≤ own_slots plan c slot + 1 = grind (arith, own_more plan c slot) in
    let same : suc slot ≡ slot + 1 = omega arith in
    let e : own_slots plan c (suc slot) ≡ own_slots plan c (slot + 1) = ap (own_slots plan c) same in
    omega arith

-- an own slot before the end leaves fewer own ones before it than there are before the end
pub own_before : (plan : SlotPlan) (c slot later : ℕ) → slot < later → owner_of_slot plan slot ≡ c → own_slots plan c slot < own_slots plan c later
own_before plan c slot later before own =
    let here : own_slots plan c (slot + 1) ≡ own_slots plan c slot + 1 = own_here plan c slot own in
    let more : own_slots plan c (slot + 1) ≤ own_slots plan c later = own_monotone plan c (slot + 1) later (omega arith) in
    omega arith

own_past : (plan : SlotPlan) (c slot more : ℕ) → ((t : ℕ) → slot ≤ t → t < slot + more → owner_of_slot plan t ≢ c)
    → own_slots plan c (slot + more) ≡ own_slots plan c slot
own_past plan c slot zero none = let same : slot + 0 ≡ slot = omega arith in ap (own_slots plan c) same
own_past plan c slot (suc more) none =
    let before : own_slots plan c (slot + more) ≡ own_slots plan c slot = own_past plan c slot more (λ t from to. none t from (omega arith)) in
    let last : own_slots plan c (slot + more + 1) ≡ own_slots plan c (slot + more) = own_else plan c (slot + more) (none (slot + more) (omega arith) (omega arith)) in
    let same : slot + suc more ≡ slot + more + 1 = omega arith in
    ap (own_slots plan c) same ∙ last ∙ before

-- slots that aren't own ones count nothing
pub own_between : (plan : SlotPlan) (c slot later : ℕ) → slot ≤ later → ((t : ℕ) → slot ≤ t → t < later → owner_of_slot plan t ≢ c)
    → own_slots plan c later ≡ own_slots plan c slot
own_between plan c slot later from none =
    let same : slot + (later - slot) ≡ later = omega arith in
    let e : own_slots plan c (slot + (later - slot)) ≡ own_slots plan c slot = own_past plan c slot (later - slot) (λ t least before. none t least (omega arith)) in
    subst (λ (n : ℕ). own_slots plan c n ≡ own_slots plan c slot) same e
