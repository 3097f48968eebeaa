-- The instructions of a phase, one after the other.
use Rattle.std.proofs.Common.{◌≡◌, ℕ, zero, suc, ◌+◌, ◌-◌, ◌*◌, ◌^◌, ◌<◌, ◌≤◌, List, [], ◌++◌, length, Bool, Option, None, true, false, if◌then◌else◌, inl, inr, refl, sym, ap, ◌∙◌, subst, arith, add-one}
use Rattle.std.proofs.lemmas.List.{append_assoc, append-nil}
use Rattle.std.proofs.lemmas.Nat.{mul-le}
use Rattle.pmsi_model.specs.declared.job.Geometry.{Geometry}
use Rattle.pmsi_model.specs.declared.Access.{Access}
use Rattle.pmsi_model.specs.declared.Touch.{Touch}
use Rattle.pmsi_model.specs.Job.{JobValue, text_of}
use Rattle.pmsi_model.specs.Slots.{own_slots, plan_of}
use Rattle.pmsi_model.specs.Coherent.{posted_request}
use Rattle.pmsi_model.specs.Machine.{Machine, CoreState, request_of}
use Rattle.pmsi_model.specs.Phase.{Context, access_at, access_if_permitted, after_effect, can_run, context_of, effect_at, instruction, instruction_touches, instructions, phase, phase_touches, touch_list}
use Rattle.pmsi_model.specs.Run.{machine_at}
use Rattle.pmsi_model.proofs.Numbers.{next_multiple}
use Rattle.pmsi_model.proofs.Boundaries.{machine_at-slot}
use Rattle.pmsi_model.proofs.Cases.{runs_wantless}
use Rattle.pmsi_model.proofs.Changes.{phase-own, phase-memory}
use Rattle.coherence_laws.proofs.Exports.{backs_fewer, FineCore}
use Rattle.core_unit.specs.declared.state.State.{State}
use Rattle.core_unit.specs.State.{core_of}
use Rattle.core_unit.specs.Stands.{with_memory, CanExecute, SameRun, StandsFor, StandsNext, TouchesNext}
use Rattle.core_unit.specs.Parts.{CanPhase, HasRows, HasTouches, IsCore, IsPart, IsPartAfter, own_touches, standing}
use Rattle.core_unit.specs.Phases.{IsInPhase, touches_in}
use Rattle.core_unit.proofs.Carried.{unchanged}
use Rattle.core_unit.proofs.Safe.{context_in, whole_in, fine_after}
use Rattle.core_unit.proofs.Touches.{instruction_few, instruction_takes, taken, touched_more, touches_as}

none_taken : (shape : Geometry) (slot : ℕ) (text : List ℕ) (y : Context) → instructions shape slot text 0 y ≡ y
unfolding instructions
none_taken shape slot text y = refl

one_more : (shape : Geometry) (slot : ℕ) (text : List ℕ) (count : ℕ) (y : Context) → instructions shape slot text (count + 1) y ≡ instruction shape slot text (instructions shape slot text count y)
unfolding instructions
one_more shape slot text count y = rw add-one refl

idle_one : (shape : Geometry) (slot : ℕ) (text : List ℕ) (y : Context) → can_run y.core ≡ false → instruction shape slot text y ≡ y
unfolding instruction
idle_one shape slot text y stops = ap (λ (b : Bool). if b then after_effect shape slot (effect_at shape text y.core) y else y) stops

-- a core that can't run takes no more
idle_more : (shape : Geometry) (slot : ℕ) (text : List ℕ) (y : Context) (count more : ℕ) → can_run (instructions shape slot text count y).core ≡ false → instructions shape slot text (count + more) y ≡ instructions shape slot text count y
idle_more shape slot text y count zero stops = let e : count + 0 ≡ count = omega arith in ap (λ (n : ℕ). instructions shape slot text n y) e
idle_more shape slot text y count (suc more) stops =
    let e : count + suc more ≡ (count + more) + 1 = omega arith in
    let before = idle_more shape slot text y count more stops in
    ap (λ (n : ℕ). instructions shape slot text n y) e ∙ one_more shape slot text (count + more) y ∙ ap (instruction shape slot text) before ∙ idle_one shape slot text (instructions shape slot text count y) stops

-- ---- the accesses

none_touched : (shape : Geometry) (slot c : ℕ) (text : List ℕ) (y : Context) → instruction_touches shape slot c text 0 y ≡ []
unfolding instruction_touches
none_touched shape slot c text y = refl

next_touched : (shape : Geometry) (slot c : ℕ) (text : List ℕ) (count : ℕ) (y : Context) → instruction_touches shape slot c text (count + 1) y
    ≡ instruction_touches shape slot c text count y
    ++ touch_list slot c (access_at shape text (instructions shape slot text count y).core) (instructions shape slot text count y).memory
unfolding instruction_touches
next_touched shape slot c text count y = rw add-one refl

idle_access : (shape : Geometry) (text : List ℕ) (k : CoreState) → can_run k ≡ false → access_at shape text k ≡ None
idle_access shape text k stops = ap (λ (b : Bool). if b then access_if_permitted shape k (effect_at shape text k) else None) stops

-- a core that can't run does no more accesses
idle_touches : (shape : Geometry) (slot c : ℕ) (text : List ℕ) (y : Context) (count more : ℕ) → can_run (instructions shape slot text count y).core ≡ false
    → instruction_touches shape slot c text (count + more) y ≡ instruction_touches shape slot c text count y
idle_touches shape slot c text y count zero stops = let e : count + 0 ≡ count = omega arith in ap (λ (n : ℕ). instruction_touches shape slot c text n y) e
idle_touches shape slot c text y count (suc more) stops =
    let e : count + suc more ≡ (count + more) + 1 = omega arith in
    let z : Context = instructions shape slot text (count + more) y in
    let idle : can_run z.core ≡ false = ap (λ (x : Context). can_run x.core) (idle_more shape slot text y count more stops) ∙ stops in
    ap (λ (n : ℕ). instruction_touches shape slot c text n y) e
    ∙ next_touched shape slot c text (count + more) y
    ∙ ap (λ (o : Option Access). instruction_touches shape slot c text (count + more) y ++ touch_list slot c o z.memory) (idle_access shape text z.core idle)
    ∙ append-nil (instruction_touches shape slot c text (count + more) y)
    ∙ idle_touches shape slot c text y count more stops

-- ---- a core within its phase

-- the rows of another state that has them
pub rows_kept : (job : JobValue) (slot c : ℕ) (v u : State) → u.rows ≡ v.rows → HasRows job slot c v → HasRows job slot c u
rows_kept job slot c v u same h = record {
  rows = ap (λ r. r.items) same ∙ h.rows;
  few = subst (λ r. length r.items ≤ own_slots (plan_of job) c slot) (sym same) h.few;
  room = subst (λ r. own_slots (plan_of job) c job.shape.slots ≤ r.room) (sym same) h.room;
}

pub begins : (job : JobValue) (slot c : ℕ) (v : State) → slot < job.shape.slots → IsPart job slot c v → IsInPhase job slot c 0 v
begins job slot c v more p = let s = p.in_slot in record {
  stands = subst (λ (y : Context). StandsFor job c y v) (sym (none_taken job.shape slot (text_of job c) (context_of (machine_at job slot) c))) s.stands;
  knows = s.knows;
  now = s.now;
  more = more;
  most = omega arith;
  rows = s.rows;
  touches = touches_as job v (own_touches job slot c) (touches_in job slot c 0) (slot * job.shape.quantum) (slot * job.shape.quantum + 0)
      (sym (append-nil (own_touches job slot c)) ∙ ap (λ (ts : List Touch). own_touches job slot c ++ ts) (sym (none_touched job.shape slot c (text_of job c) (context_of (machine_at job slot) c))))
      (omega arith) p.touches;
}

-- there are more slots to go, and this one isn't used up
within_run : (slot slots quantum count : ℕ) → slot < slots → count < quantum → slot * quantum + count < slots * quantum
within_run slot slots quantum count below more =
    let p : (slot + 1) * quantum ≤ slots * quantum = mul-le (slot + 1) quantum slots quantum (omega arith) (omega arith) in let q = next_multiple slot quantum in omega arith

retired_fits : (slots quantum retired : ℕ) → slots ≤ 1000000 → quantum ≤ 256 → retired < slots * quantum → retired + 1 < 2 ^ 64
retired_fits slots quantum retired many most few = let p : slots * quantum ≤ 1000000 * 256 = mul-le slots quantum 1000000 256 many most in omega arith

-- a core that runs has no request
no_request : (job : JobValue) (slot c count : ℕ) (v : State) → IsInPhase job slot c count v → can_run (core_of v) ≡ true → request_of c (machine_at job slot).posted ≡ None
no_request job slot c count v p runs = let x : Machine = machine_at job slot in
    let f : FineCore job.shape (slot + 1) x.posted c (core_of v) = subst (FineCore job.shape (slot + 1) x.posted c) p.stands.core (fine_after job slot c count p.stands.carries.within) in
    f.posted_wants ∙ ap (posted_request c) (runs_wantless (core_of v) runs)

pub can_execute : (job : JobValue) (slot c count : ℕ) (v : State) → IsInPhase job slot c count v → count < job.shape.quantum → can_run (core_of v) ≡ true → CanExecute v
can_execute job slot c count v p below runs =
    let s = p.stands.carries in let is = s.within.shape in let x : Machine = machine_at job slot in
    let f : FineCore job.shape (slot + 1) x.posted c (core_of v) = subst (FineCore job.shape (slot + 1) x.posted c) p.stands.core (fine_after job slot c count s.within) in
    let few : length v.pending.write_backs < job.shape.cores = backs_fewer job.shape (slot + 1) x.posted x.cores c (core_of v) (whole_in job slot s.within)
    f s.below (runs_wantless (core_of v) runs) in
    let room = within_run slot job.shape.slots job.shape.quantum count p.more below in let r = p.touches.retired in
    let spare : v.retired < job.shape.slots * job.shape.quantum = omega arith in record {
      job = job;
      core = c;
      memory = (context_in job slot c count).memory;
      carries = s;
      once = f.held_once;
      backs = subst (λ (n : ℕ). length v.pending.write_backs < n) (sym s.cores) few;
      retires = retired_fits job.shape.slots job.shape.quantum v.retired is.slots is.quantum spare;
      touches = λ keeps. let r = p.touches.room keeps in let t = p.touches.few in omega arith;
      wants_nothing = runs_wantless (core_of v) runs;
      posted = x.posted;
      unasked = no_request job slot c count v p runs;
      knows = p.knows;
    }

-- the accesses with that of one more instruction
one_more_touched : (job : JobValue) (slot c count : ℕ) (v : State) → IsInPhase job slot c count v
    → touches_in job slot c count ++ touch_list v.slot c (access_at job.shape (text_of job c) (core_of v)) (context_in job slot c count).memory ≡ touches_in job slot c (count + 1)
one_more_touched job slot c count v p =
    let y : Context = context_in job slot c count in let text : List ℕ = text_of job c in let x : Context = context_of (machine_at job slot) c in
    let before : List Touch = instruction_touches job.shape slot c text count x in
    ap (λ (s : ℕ). touches_in job slot c count ++ touch_list s c (access_at job.shape text (core_of v)) y.memory) p.now
    ∙ ap (λ (k : CoreState). touches_in job slot c count ++ touch_list slot c (access_at job.shape text k) y.memory) (sym p.stands.core)
    ∙ append_assoc (own_touches job slot c) before (touch_list slot c (access_at job.shape text y.core) y.memory)
    ∙ ap (λ (ts : List Touch). own_touches job slot c ++ ts) (sym (next_touched job.shape slot c text count x))

pub takes_one : (job : JobValue) (slot c count : ℕ) (v u : State) → IsInPhase job slot c count v → count < job.shape.quantum → can_run (core_of v) ≡ true → SameRun v u →
    StandsNext v u → TouchesNext v u → IsInPhase job slot c (count + 1) u
takes_one job slot c count v u p below runs same after touches =
    let y : Context = context_in job slot c count in
    let here : with_memory y.memory v ≡ y = ap (λ (k : CoreState). let z : Context = record { core = k; memory = y.memory } in z) (sym p.stands.core) in
    let to : instruction job.shape v.slot (text_of job c) (with_memory y.memory v) ≡ instructions job.shape slot (text_of job c) (count + 1) (context_of (machine_at job slot) c) =
    ap (λ (s : ℕ). instruction job.shape s (text_of job c) (with_memory y.memory v)) p.now ∙ ap (instruction job.shape slot (text_of job c)) here
    ∙ sym (one_more job.shape slot (text_of job c) count (context_of (machine_at job slot) c)) in
    let stands = after job c y.memory p.stands.carries in
    let did : List Touch = touch_list v.slot c (access_at job.shape (text_of job c) (core_of v)) y.memory in
    let last : touches_in job slot c count ++ did ≡ touches_in job slot c (count + 1) = one_more_touched job slot c count v p in
    let few : length did + v.retired ≤ u.retired =
    subst (λ (k : CoreState). length did + v.retired ≤ k.retired) stands.core (instruction_few job.shape v.slot c (text_of job c) (with_memory y.memory v)) in
    let takes : u.retired + standing u.pending.want ≤ v.retired + standing v.pending.want + 1 =
    subst (λ (k : CoreState). taken k ≤ v.retired + standing v.pending.want + 1) stands.core (instruction_takes job.shape v.slot (text_of job c) (with_memory y.memory v)) in
    let r = p.touches.retired in record {
      stands = subst (λ (z : Context). StandsFor job c z u) to stands;
      knows = same.states (machine_at job slot).posted c (no_request job slot c count v p runs) p.knows;
      now = same.slot ∙ p.now;
      more = p.more;
      most = omega arith;
      rows = rows_kept job slot c v u same.rows p.rows;
      touches = subst (λ (ts : List Touch). HasTouches job ts (slot * job.shape.quantum + (count + 1)) u) last
          (touched_more job v u (touches_in job slot c count) did (slot * job.shape.quantum + count) (slot * job.shape.quantum + (count + 1)) same.keeps same.room
          (touches job c y.memory p.stands.carries) few (omega arith) p.touches);
    }

-- a core that can't run has done its phase
pub stops_early : (job : JobValue) (slot c count : ℕ) (v : State) → IsInPhase job slot c count v → can_run (core_of v) ≡ false → IsInPhase job slot c job.shape.quantum v
stops_early job slot c count v p stops =
    let y : Context = context_of (machine_at job slot) c in let most = p.most in let e : count + (job.shape.quantum - count) ≡ job.shape.quantum = omega arith in
    let idle : can_run (instructions job.shape slot (text_of job c) count y).core ≡ false = ap can_run p.stands.core ∙ stops in
    let same : instructions job.shape slot (text_of job c) count y ≡ instructions job.shape slot (text_of job c) job.shape.quantum y =
    sym (ap (λ (n : ℕ). instructions job.shape slot (text_of job c) n y) (sym e) ∙ idle_more job.shape slot (text_of job c) y count (job.shape.quantum - count) idle) in record {
      stands = subst (λ (z : Context). StandsFor job c z v) same p.stands;
      knows = p.knows;
      now = p.now;
      more = p.more;
      most = omega arith;
      rows = p.rows;
      touches = touches_as job v (touches_in job slot c count) (touches_in job slot c job.shape.quantum) (slot * job.shape.quantum + count) (slot * job.shape.quantum + job.shape.quantum)
          (ap (λ (ts : List Touch). own_touches job slot c ++ ts) (sym (ap (λ (n : ℕ). instruction_touches job.shape slot c (text_of job c) n y) (sym e)
          ∙ idle_touches job.shape slot c (text_of job c) y count (job.shape.quantum - count) idle))) (omega arith) p.touches;
    }

pub all_taken : (job : JobValue) (slot c count : ℕ) (v : State) → IsInPhase job slot c count v → job.shape.quantum ≤ count → IsInPhase job slot c job.shape.quantum v
all_taken job slot c count v p enough = let most = p.most in let e : count ≡ job.shape.quantum = omega arith in subst (λ (n : ℕ). IsInPhase job slot c n v) e p

-- so many instructions are taken from a boundary on
pub record IsTaking (first v : State) (count : ℕ) : Type 0 where
  pub phase : (job : JobValue) (slot c : ℕ) → slot < job.shape.slots → IsPart job slot c first → IsInPhase job slot c count v
  pub keeps : v.keeps ≡ first.keeps

-- ---- the phase done

-- the context of a core after its phase alone
pub phase_is : (job : JobValue) (slot c : ℕ) → context_of (phase job c (machine_at job slot)) c ≡ context_in job slot c job.shape.quantum
phase_is job slot c = let x : Machine = machine_at job slot in
    ap (λ (k : CoreState). let z : Context = record { core = k; memory = (phase job c x).memory } in z) (phase-own job c x)
    ∙ ap (λ (m : List ℕ). let z : Context = record { core = (instructions job.shape x.slot (text_of job c) job.shape.quantum (context_of x c)).core; memory = m } in z) (phase-memory job c x)
    ∙ ap (λ (s : ℕ). instructions job.shape s (text_of job c) job.shape.quantum (context_of x c)) (machine_at-slot job slot)

-- the mark that the phase is done is no part of what a state stands for
marked_stands : (job : JobValue) (c : ℕ) (y : Context) (v : State) → StandsFor job c y v → StandsFor job c y (record v { phase_done = true })
marked_stands job c y v s = record { carries = unchanged job c y.memory v (record v { phase_done = true }) s.carries refl refl refl; core = s.core }

marked_touches : (job : JobValue) (touches : List Touch) (most : ℕ) (v : State) → HasTouches job touches most v → HasTouches job touches most (record v { phase_done = true })
marked_touches job touches most v h = record { touches = h.touches; few = h.few; room = h.room; retired = h.retired }

-- the accesses of the phase
phase_touches_are : (job : JobValue) (slot c : ℕ) → touches_in job slot c job.shape.quantum ≡ own_touches job slot c ++ phase_touches job c (machine_at job slot)
unfolding phase_touches
phase_touches_are job slot c = let x : Machine = machine_at job slot in
    ap (λ (s : ℕ). own_touches job slot c ++ instruction_touches job.shape s c (text_of job c) job.shape.quantum (context_of x c)) (sym (machine_at-slot job slot))

pub phase_done : (job : JobValue) (slot c : ℕ) (v : State) → IsInPhase job slot c job.shape.quantum v → IsPartAfter job slot c (record v { phase_done = true })
phase_done job slot c v p = record {
  in_slot = record {
    stands = subst (λ (y : Context). StandsFor job c y (record v { phase_done = true })) (sym (phase_is job slot c)) (marked_stands job c (context_in job slot c job.shape.quantum) v p.stands);
    knows = record { names = p.knows.names; once = p.knows.once };
    now = p.now;
    within = (let m = p.more in omega arith);
    rows = rows_kept job slot c v (record v { phase_done = true }) refl p.rows;
  };
  done = refl;
  more = p.more;
  touches = marked_touches job (own_touches job slot c ++ phase_touches job c (machine_at job slot)) ((slot + 1) * job.shape.quantum) v
      (touches_as job v (touches_in job slot c job.shape.quantum) (own_touches job slot c ++ phase_touches job c (machine_at job slot))
      (slot * job.shape.quantum + job.shape.quantum) ((slot + 1) * job.shape.quantum) (phase_touches_are job slot c) (let m = next_multiple slot job.shape.quantum in omega arith) p.touches);
}

-- ---- the call

phase_of : (job : JobValue) (slot c : ℕ) (v : State) → IsPart job slot c v → v.slot < v.shape.slots → CanPhase v
phase_of job slot c v p more = record {
  job = job;
  core = c;
  part = subst (λ (s : ℕ). IsPart job s c v) (sym p.in_slot.now) p;
  more = subst (λ (g : Geometry). v.slot < g.slots) p.in_slot.stands.carries.shape more;
}

-- a core of some job whose phase isn't done can do it
pub can_phase : (v : State) → IsCore v → v.phase_done ≡ false → v.slot < v.shape.slots → CanPhase v
can_phase v is fresh more = elim is.part [
  | inl p ↦ phase_of is.job is.slot is.core v p more
  | inr p ↦ absurd (let done = p.done in grind arith)
]
