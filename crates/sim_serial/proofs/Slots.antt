-- The cores and the bus go through a slot.
use Rattle.std.proofs.Common.{◌≡◌, ◌≢◌, ℕ, ◌+◌, ◌<◌, ◌≤◌, List, length, get_or, set, sym, ap, ◌∙◌, subst, arith, get_or-set_same, get_or-set_other, length-set}
use mathlib.Core.Logic.{dite}
use native.Mathlib.Decide.{ℕ_discrete}
use Rattle.pmsi_model.specs.declared.job.Geometry.{Geometry}
use Rattle.pmsi_model.specs.declared.Action.{Action}
use Rattle.pmsi_model.specs.Job.{JobValue, IsJob}
use Rattle.pmsi_model.specs.Slots.{SlotPlan, plan_of, owner_of_slot}
use Rattle.pmsi_model.specs.Run.{record_at}
use Rattle.pmsi_model.specs.Shared.{BusSide}
use Rattle.pmsi_model.specs.Parts.{IsBusPart}
use Rattle.pmsi_model.proofs.Distances.{slot_owner_below}
use Rattle.core_unit.specs.declared.state.State.{State}
use Rattle.core_unit.specs.Acts.{IsActed}
use Rattle.core_unit.specs.Parts.{IsPart, IsPartAfter, CanAct, CanSnoop}
use Rattle.sim_serial.specs.Cores.{AreParts, AreInPhases, ArePhased, AreInNotes, AreWith}

-- ---- one core of the list becomes another

module _ (cores : List State) (c : ℕ) (k : State) (below : c < length cores) where
  -- what holds of the new one, and of the others as they were
  pub after_set : (P : ℕ → State → Type 0) (d : ℕ) (other : State) → P c k → (d ≢ c → P d (get_or cores d other)) → P d (get_or (set cores c k) d other)
  after_set P d other own others = dite (ℕ_discrete d c)
      (λ same. subst (λ n. P n (get_or (set cores c k) n other)) (sym same) (subst (P c) (sym (get_or-set_same cores c k other below)) own))
      (λ differs. subst (P d) (sym (get_or-set_other cores c d k other differs)) (others differs))

-- ---- the phases

pub begins : (job : JobValue) (slot : ℕ) (cores : List State) → slot < job.shape.slots → AreParts job slot cores → AreInPhases job slot 0 cores
begins job slot cores more at = record {
  within = at.within;
  all = at.count;
  more = more;
  done = λ c other below none. absurd (omega arith);
  left = λ c other below from. at.parts c other below;
}

phase_more : (job : JobValue) (slot count : ℕ) (cores : List State) (k : State) → count < length cores → AreInPhases job slot count cores → IsPartAfter job slot count k → AreInPhases job slot (count + 1) (set cores count k)
phase_more job slot count cores k below p after = record {
  within = p.within;
  all = length-set cores count k ∙ p.all;
  more = p.more;
  done = λ c other has earlier. after_set cores count k below (IsPartAfter job slot) c other after (λ differs. p.done c other has (omega arith));
  left = λ c other has later. after_set cores count k below (λ d j. count + 1 ≤ d → IsPart job slot d j) c other (λ past. absurd (omega arith)) (λ differs past. p.left c other has (omega arith)) later;
}

pub phase_next : (job : JobValue) (slot count : ℕ) (cores : List State) (other k j : State) → count < length cores → AreInPhases job slot count cores → k ≡ get_or cores count other →
    (slot < job.shape.slots → IsPart job slot count k → IsPartAfter job slot count j) → AreInPhases job slot (count + 1) (set cores count j)
phase_next job slot count cores other k j below p is done =
    phase_more job slot count cores j below p (done p.more (subst (IsPart job slot count) (sym is) (p.left count other (subst (λ n. count < n) p.all below) (omega arith))))

pub all_phased : (job : JobValue) (slot count : ℕ) (cores : List State) → length cores ≡ count → AreInPhases job slot count cores → ArePhased job slot cores
all_phased job slot count cores all p = subst (λ n. AreInPhases job slot n cores) (sym all ∙ p.all) p

pub next_part : (job : JobValue) (slot count : ℕ) (cores : List State) (other : State) → count < length cores → AreInPhases job slot count cores → IsPart job slot count (get_or cores count other)
next_part job slot count cores other below p = p.left count other (subst (λ n. count < n) p.all below) (omega arith)

-- there is a slot to go
pub slot_more : (job : JobValue) (slot count : ℕ) (k : State) → slot < job.shape.slots → IsPart job slot count k → k.slot < k.shape.slots
slot_more job slot count k more part = let now = part.in_slot.now in subst (λ (g : Geometry). k.slot < g.slots) (sym part.in_slot.stands.carries.shape) (subst (λ n. n < job.shape.slots) (sym now) more)

-- ---- the owner's action

pub owner_below : (job : JobValue) (slot owner : ℕ) → IsJob job → owner ≡ owner_of_slot (plan_of job) slot → owner < job.shape.cores
owner_below job slot owner is by = subst (λ n. n < job.shape.cores) (sym by) (slot_owner_below (plan_of job) slot is.shape.some_cores)

pub can_act : (job : JobValue) (slot owner : ℕ) (cores : List State) (bus : BusSide) (other k : State) → ArePhased job slot cores → IsBusPart job slot bus → owner ≡ owner_of_slot (plan_of job) slot → k ≡ get_or cores owner other → CanAct k bus
can_act job slot owner cores bus other k p side by is =
    let has = owner_below job slot owner p.within by in
    let part : IsPartAfter job slot owner k = subst (IsPartAfter job slot owner) (sym is) (p.done owner other has has) in record {
      job = job;
      core = owner;
      part = subst (λ n. IsPartAfter job n owner k) (sym part.in_slot.now) part;
      bus = subst (λ n. IsBusPart job n bus) (sym part.in_slot.now) side;
      own = ap (owner_of_slot (plan_of job)) part.in_slot.now ∙ sym by;
    }

pub owner_acted : (job : JobValue) (slot owner : ℕ) (cores : List State) (other k : State) → ArePhased job slot cores → owner ≡ owner_of_slot (plan_of job) slot → k ≡ get_or cores owner other → IsPartAfter job slot owner k
owner_acted job slot owner cores other k p by is = let has = owner_below job slot owner p.within by in subst (IsPartAfter job slot owner) (sym is) (p.done owner other has has)

pub acts : (job : JobValue) (slot owner : ℕ) (cores : List State) (j : State) (action : Action) (bus : BusSide) → ArePhased job slot cores → owner ≡ owner_of_slot (plan_of job) slot →
    IsActed job slot owner action j bus → AreInNotes job slot owner action 0 (set cores owner j)
acts job slot owner cores j action bus p by a =
    let has = owner_below job slot owner p.within by in
    let below : owner < length cores = subst (λ n. owner < n) (sym p.all) has in record {
      within = p.within;
      all = length-set cores owner j ∙ p.all;
      by = by;
      what = a.what;
      acted = λ rest. subst (IsPart job (slot + 1) owner) (sym (get_or-set_same cores owner j rest below)) a.core;
      done = λ c rest inside none. absurd (omega arith);
      left = λ c rest inside from differs. subst (IsPartAfter job slot c) (sym (get_or-set_other cores owner c j rest differs)) (p.done c rest inside inside);
    }

-- ---- the notes

pub can_snoop : (job : JobValue) (slot owner : ℕ) (action : Action) (count : ℕ) (cores : List State) (other k : State) → count < length cores → AreInNotes job slot owner action count cores → count ≢ owner → k ≡ get_or cores count other → CanSnoop owner action k
can_snoop job slot owner action count cores other k below p differs is =
    let part : IsPartAfter job slot count k = subst (IsPartAfter job slot count) (sym is) (p.left count other (subst (λ n. count < n) p.all below) (omega arith) differs) in record {
      job = job;
      core = count;
      part = subst (λ n. IsPartAfter job n count k) (sym part.in_slot.now) part;
      owner = ap (owner_of_slot (plan_of job)) part.in_slot.now ∙ sym p.by;
      other = λ same. differs (sym same);
      what = p.what ∙ ap (record_at job) (sym part.in_slot.now);
    }

pub note_more : (job : JobValue) (slot owner : ℕ) (action : Action) (count : ℕ) (cores : List State) (other k j : State) → count < length cores → AreInNotes job slot owner action count cores → count ≢ owner → k ≡ get_or cores count other →
    (IsPartAfter job slot count k → owner_of_slot (plan_of job) slot ≡ owner → owner ≢ count → action ≡ record_at job slot → IsPart job (slot + 1) count j) → AreInNotes job slot owner action (count + 1) (set cores count j)
note_more job slot owner action count cores other k j below p differs is noted =
    let after : IsPart job (slot + 1) count j = noted (subst (IsPartAfter job slot count) (sym is) (p.left count other (subst (λ n. count < n) p.all below) (omega arith) differs)) (sym p.by) (λ same. differs (sym same)) p.what in record {
      within = p.within;
      all = length-set cores count j ∙ p.all;
      by = p.by;
      what = p.what;
      acted = λ rest. subst (IsPart job (slot + 1) owner) (sym (get_or-set_other cores count owner j rest (λ same. differs (sym same)))) (p.acted rest);
      done = λ c rest inside earlier. after_set cores count j below (IsPart job (slot + 1)) c rest after (λ other. p.done c rest inside (omega arith));
      left = λ c rest inside later apart. after_set cores count j below (λ d i. count + 1 ≤ d → IsPartAfter job slot d i) c rest (λ past. absurd (omega arith)) (λ other past. p.left c rest inside (omega arith) apart) later;
    }

-- the owner has nothing to note
pub note_none : (job : JobValue) (slot owner : ℕ) (action : Action) (count : ℕ) (cores : List State) → AreInNotes job slot owner action count cores → count ≡ owner → AreInNotes job slot owner action (count + 1) cores
note_none job slot owner action count cores p same = record {
  within = p.within;
  all = p.all;
  by = p.by;
  what = p.what;
  acted = p.acted;
  done = λ c rest inside earlier. dite (ℕ_discrete c owner)
      (λ own. subst (λ n. IsPart job (slot + 1) n (get_or cores n rest)) (sym own) (p.acted rest))
      (λ other. p.done c rest inside (omega arith));
  left = λ c rest inside later apart. p.left c rest inside (omega arith) apart;
}

pub all_noted : (job : JobValue) (slot owner : ℕ) (action : Action) (count : ℕ) (cores : List State) → length cores ≤ count → AreInNotes job slot owner action count cores → AreParts job (slot + 1) cores
all_noted job slot owner action count cores all p = record {
  within = p.within;
  count = p.all;
  parts = λ c rest inside. p.done c rest inside (let n = p.all in omega arith);
}

-- ---- the slot

pub owner_of_bus : (job : JobValue) (slot owner at : ℕ) (plan : SlotPlan) (cores : List State) (bus : BusSide) → AreWith job slot cores bus → plan ≡ bus.plan → at ≡ bus.slot →
    owner ≡ owner_of_slot plan at → owner ≡ owner_of_slot (plan_of job) slot
owner_of_bus job slot owner at plan cores bus w table now is =
    is ∙ ap (λ p. owner_of_slot p at) (table ∙ w.side.plan) ∙ ap (owner_of_slot (plan_of job)) (now ∙ w.side.now)
