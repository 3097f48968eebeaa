-- What is left for a want falls with each slot, so waits are bounded.
use Rattle.std.proofs.Common.{◌≡◌, ℕ, zero, suc, ◌+◌, ◌-◌, ◌<◌, ◌≤◌, Option, Some, None, refl, sym, ap, ◌∙◌, subst, arith}
use Rattle.pmsi_model.specs.declared.Want.{Want}
use Rattle.pmsi_model.specs.Job.{JobValue, IsJob}
use Rattle.pmsi_model.specs.Slots.{plan_of, owner_of_slot, bound_of}
use Rattle.pmsi_model.specs.Machine.{Machine}
use Rattle.pmsi_model.specs.Bus.{action_of, after_action}
use Rattle.pmsi_model.specs.Run.{start_of, slot_done, machine_at, slot_owner}
use Rattle.pmsi_model.specs.Waiting.{left_for}
use Rattle.pmsi_model.proofs.Boundaries.{next_machine}
use Rattle.pmsi_model.proofs.Distances.{slot_owner_below}
use Rattle.coherence_laws.proofs.Exports.{IsWhole}
use Rattle.waiting_laws.specs.Laws.{LeftFalls, StartsBelowBound, AlwaysBounded}
use Rattle.waiting_laws.proofs.Steps.{left_most}
use Rattle.waiting_laws.proofs.Asks.{at_next}
use Rattle.waiting_laws.proofs.Phases.{phased, phased-slot, phased_calm, phased_whole, phased_left, phased_want}
use Rattle.waiting_laws.proofs.Actions.{action_falls, action_none}

-- ---- one slot

-- the owner of a slot
abbrev pub owner_at : JobValue → ℕ → ℕ
owner_at job slot = slot_owner job (machine_at job slot)

owner_at-phased : (job : JobValue) (slot : ℕ) → slot_owner job (phased job slot) ≡ owner_at job slot
owner_at-phased job slot = ap (owner_of_slot (plan_of job)) ((phased_calm job slot).same_slot)

pub owner_at-below : (job : JobValue) → IsJob job → (slot : ℕ) → owner_at job slot < job.shape.cores
owner_at-below job is slot = slot_owner_below (plan_of job) (machine_at job slot).slot is.shape.some_cores

-- the machine after the action of a slot
abbrev acted : JobValue → ℕ → Machine
acted job slot = after_action (phased job slot) (owner_at job slot) (action_of job (phased job slot) (owner_at job slot))

slot_done-acted : (job : JobValue) (slot : ℕ) → slot_done job (machine_at job slot) ≡ at_next (phased job slot) (acted job slot)
unfolding slot_done
slot_done-acted job slot = ap (λ (s : ℕ). record (acted job slot) { slot = s + 1 }) (sym ((phased_calm job slot).same_slot))

next_is : (job : JobValue) (slot : ℕ) → machine_at job (slot + 1) ≡ at_next (phased job slot) (acted job slot)
next_is job slot = next_machine job slot ∙ slot_done-acted job slot

whole_then : (job : JobValue) → IsJob job → (slot : ℕ) → IsWhole job.shape ((phased job slot).slot + 1) (phased job slot).posted (phased job slot).cores
whole_then job is slot =
    subst (λ (s : ℕ). IsWhole job.shape (s + 1) (phased job slot).posted (phased job slot).cores) (sym (phased-slot job slot)) (phased_whole job is slot)

-- a want at the next boundary is the one of after the phases, with fewer slots left
abbrev Nearer : JobValue → ℕ → ℕ → Want → Machine → Type 0
Nearer job slot c want z = (later : Want) → (z.cores c).want ≡ Some later
    → (later.issue ≡ want.issue) × (left_for (plan_of job) z c later + 1 ≤ left_for (plan_of job) (phased job slot) c want)

pub slot_falls : (job : JobValue) → IsJob job → (slot c : ℕ) (want : Want) → c < job.shape.cores → ((phased job slot).cores c).want ≡ Some want
    → Nearer job slot c want (machine_at job (slot + 1))
slot_falls job is slot c want below wants =
    subst (λ (z : Machine). Nearer job slot c want z) (sym (next_is job slot))
    (action_falls job (phased job slot) (owner_at job slot) c want (whole_then job is slot) (owner_at-phased job slot) (owner_at-below job is slot) below wants)

-- no want begins with the action
slot_none : (job : JobValue) (slot c : ℕ) → ((phased job slot).cores c).want ≡ None → ((machine_at job (slot + 1)).cores c).want ≡ None
slot_none job slot c none = subst (λ (z : Machine). (z.cores c).want ≡ None) (sym (next_is job slot))
    (action_none (phased job slot) (owner_at job slot) c (action_of job (phased job slot) (owner_at job slot)) none)

pub left_falls : LeftFalls
left_falls job is slot c want later below wants then_wants =
    let falls = slot_falls job is slot c want below (phased_want job slot c want wants) later then_wants in
    let same = phased_left job is slot c want wants in
    omega (arith, falls.1)

-- after the phases there is at most the bound left
phased_most : (job : JobValue) → IsJob job → (slot c : ℕ) (want : Want) → c < job.shape.cores → ((phased job slot).cores c).want ≡ Some want
    → left_for (plan_of job) (phased job slot) c want ≤ bound_of (plan_of job)
phased_most job is slot c want below wants = left_most job (slot + 1) (phased job slot) c want (phased_whole job is slot) below wants

starts_from : (job : JobValue) → IsJob job → (slot c : ℕ) (want : Want) (o : Option Want) → c < job.shape.cores → ((phased job slot).cores c).want ≡ o
    → ((machine_at job (slot + 1)).cores c).want ≡ Some want
    → left_for (plan_of job) (machine_at job (slot + 1)) c want + 1 ≤ bound_of (plan_of job)
starts_from job is slot c want None below none wants = let gone = slot_none job slot c none in absurd (grind arith)
starts_from job is slot c want (Some v) below has wants =
    let falls = slot_falls job is slot c v below has want wants in
    let most = phased_most job is slot c v below has in
    omega (arith, falls.1)

pub starts_below_bound : StartsBelowBound
starts_below_bound job is slot c want below wants began = starts_from job is slot c want ((phased job slot).cores c).want below refl wants

-- ---- all slots

-- what is left for each want and its age are within the bound together
abbrev pub IsBounded : JobValue → ℕ → Machine → Type 0
IsBounded job slot z = (c : ℕ) (want : Want) → c < job.shape.cores → (z.cores c).want ≡ Some want
    → left_for (plan_of job) z c want + (slot - want.issue) ≤ bound_of (plan_of job)

phased_from : (job : JobValue) → IsJob job → (slot : ℕ) → IsBounded job slot (machine_at job slot) → (c : ℕ) (want : Want) (o : Option Want) → c < job.shape.cores
    → ((machine_at job slot).cores c).want ≡ o → ((phased job slot).cores c).want ≡ Some want
    → left_for (plan_of job) (phased job slot) c want + (slot - want.issue) ≤ bound_of (plan_of job)
phased_from job is slot bounded c want None below none wants =
    let began : want.issue ≡ slot = ((phased_calm job slot).quiet c).begins want none wants in
    let most = phased_most job is slot c want below wants in
    omega arith
phased_from job is slot bounded c want (Some u) below has wants =
    let stays : ((phased job slot).cores c).want ≡ Some u = phased_want job slot c u has in
    let same : Some u ≡ Some want = sym stays ∙ wants in
    let here : ((machine_at job slot).cores c).want ≡ Some want = has ∙ same in
    let most = bounded c want below here in
    let as_much = phased_left job is slot c want here in
    omega arith

pub phased_bounded : (job : JobValue) → IsJob job → (slot : ℕ) → IsBounded job slot (machine_at job slot) → IsBounded job slot (phased job slot)
phased_bounded job is slot bounded c want below wants = phased_from job is slot bounded c want ((machine_at job slot).cores c).want below refl wants

next_from : (job : JobValue) → IsJob job → (slot : ℕ) → IsBounded job slot (phased job slot) → (c : ℕ) (want : Want) (o : Option Want) → c < job.shape.cores
    → ((phased job slot).cores c).want ≡ o → ((machine_at job (slot + 1)).cores c).want ≡ Some want
    → left_for (plan_of job) (machine_at job (slot + 1)) c want + (slot + 1 - want.issue) ≤ bound_of (plan_of job)
next_from job is slot bounded c want None below none wants = let gone = slot_none job slot c none in absurd (grind arith)
next_from job is slot bounded c want (Some v) below has wants =
    let falls = slot_falls job is slot c v below has want wants in
    let most = bounded c v below has in
    omega (arith, falls.0, falls.1)

next_bounded : (job : JobValue) → IsJob job → (slot : ℕ) → IsBounded job slot (phased job slot) → IsBounded job (slot + 1) (machine_at job (slot + 1))
next_bounded job is slot bounded c want below wants = next_from job is slot bounded c want ((phased job slot).cores c).want below refl wants

start_bounded : (job : JobValue) → IsBounded job zero (machine_at job zero)
unfolding machine_at start_of
start_bounded job c want below wants = absurd (grind arith)

pub bounded_at : (job : JobValue) → IsJob job → (slot : ℕ) → IsBounded job slot (machine_at job slot)
bounded_at job is zero = start_bounded job
bounded_at job is (suc slot) =
    let next : slot + 1 ≡ suc slot = omega arith in
    subst (λ (s : ℕ). IsBounded job s (machine_at job s)) next (next_bounded job is slot (phased_bounded job is slot (bounded_at job is slot)))

pub always_bounded : AlwaysBounded
always_bounded job is slot c want within below wants = bounded_at job is slot c want below wants
