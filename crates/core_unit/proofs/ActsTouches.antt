-- A core's accesses, and their room, when a slot is over.
use Rattle.std.proofs.Common.{◌≡◌, ◌≢◌, ℕ, ◌+◌, ◌*◌, ◌^◌, ◌<◌, ◌≤◌, ◌==◌, List, [], ◌∷◌, ◌++◌, length, append_assoc, Option, Some, None, Bool, true, false, if◌then◌else◌, refl, sym, ap, ◌∙◌, subst, arith}
use Rattle.std.specs.List.{filter}
use Rattle.std.specs.Option.{option_map}
use Rattle.std.proofs.lemmas.List.Elements.{filter-append}
use Rattle.std.proofs.lemmas.Nat.{mul-le}
use Rattle.std.proofs.Math.Nat.{mul-le-mul_right}
use Rattle.pmsi_model.specs.declared.Action.{Action}
use Rattle.pmsi_model.specs.declared.Action.TheVariants.{Idle, Post, Fill, PostFill, Back}
use Rattle.pmsi_model.specs.declared.Touch.{Touch}
use Rattle.pmsi_model.specs.declared.Want.{Want}
use Rattle.pmsi_model.specs.Job.{JobValue, IsJob}
use Rattle.pmsi_model.specs.Slots.{plan_of, owner_of_slot}
use Rattle.pmsi_model.specs.Machine.{Machine}
use Rattle.pmsi_model.specs.Phase.{met_bytes, phase_touches, phases_touches, touch_of, touches_by}
use Rattle.pmsi_model.specs.Bus.{action_of}
use Rattle.pmsi_model.specs.Run.{action_touch, after_phases, machine_at, record_at, touches_of, want_touch}
use Rattle.pmsi_model.proofs.Boundaries.{machine_at-slot, next_touches}
use Rattle.coherence_laws.proofs.Exports.{phases_are_apart}
use Rattle.rv_exec.specs.Accesses.{covered}
use Rattle.core_unit.specs.declared.state.State.{State}
use Rattle.core_unit.specs.Reserved.{Reserved}
use Rattle.core_unit.specs.State.{stepped, touch_on, with_touch}
use Rattle.core_unit.specs.Stands.{HasTouched, HasTouchRoom}
use Rattle.core_unit.specs.Parts.{HasTouches, own_touches, standing}
use Rattle.core_unit.proofs.SidesNext.{record_is}
use Rattle.core_unit.proofs.Touches.{touch_is, touched_more, touches_as, untouched}

-- ---- the accesses of a slot

-- those of a core until the slot's action
abbrev pub touches_before : JobValue → ℕ → ℕ → List Touch
touches_before job slot c = own_touches job slot c ++ phase_touches job c (machine_at job slot)

-- and with it
abbrev pub acted_touches : JobValue → ℕ → ℕ → List Touch
acted_touches job slot c =
    touches_by c (action_touch (after_phases job (machine_at job slot)) (owner_of_slot (plan_of job) (machine_at job slot).slot) (record_at job slot))

-- a core's accesses in a slot are those of its phase, and one where its request is served
pub touches_after : (job : JobValue) (slot c : ℕ) → IsJob job → c < job.shape.cores
    → own_touches job (slot + 1) c ≡ touches_before job slot c ++ acted_touches job slot c
touches_after job slot c is below =
    let x : Machine = machine_at job slot in
    let mine : Touch → Bool = λ touch. touch.core == c in
    let phases : List Touch = phases_touches job job.shape.cores x in
    let acted : List Touch = action_touch (after_phases job x) (owner_of_slot (plan_of job) x.slot) (record_at job slot) in
    ap (filter mine) (next_touches job slot)
    ∙ filter-append mine (touches_of job slot) (phases ++ acted)
    ∙ ap (λ (ts : List Touch). filter mine (touches_of job slot) ++ ts)
    (filter-append mine phases acted ∙ ap (λ (ts : List Touch). ts ++ filter mine acted) ((phases_are_apart job is slot).touches c below))
    ∙ sym (append_assoc (filter mine (touches_of job slot)) (phase_touches job c x) (filter mine acted))

-- in an own slot, what its action does
pub acted_own : (job : JobValue) (slot c : ℕ) (action : Action) → owner_of_slot (plan_of job) slot ≡ c
    → action_of job (after_phases job (machine_at job slot)) c ≡ action
    → acted_touches job slot c ≡ touches_by c (action_touch (after_phases job (machine_at job slot)) c action)
acted_own job slot c action own acted =
    let y : Machine = after_phases job (machine_at job slot) in
    ap (λ (a : Action). touches_by c (action_touch y (owner_of_slot (plan_of job) (machine_at job slot).slot) a)) (record_is job slot c own ∙ acted)
    ∙ ap (λ (d : ℕ). touches_by c (action_touch y d action)) (ap (owner_of_slot (plan_of job)) (machine_at-slot job slot) ∙ own)

other_touch : (y : Machine) (c d : ℕ) (want : Option Want) → d ≢ c → touches_by d (want_touch y c want) ≡ []
other_touch y c d None other = refl
other_touch y c d (Some want) other = let apart : (c == d) ≡ false = grind arith in
    ap (λ (b : Bool). if b then touch_of y.slot c want.access y.memory ∷ [] else []) apart

-- the access of a request that is served is the owner's
pub other_touches : (y : Machine) (c d : ℕ) (action : Action) → d ≢ c → touches_by d (action_touch y c action) ≡ []
other_touches y c d Idle other = refl
other_touches y c d (Post name line) other = refl
other_touches y c d (Fill line) other = other_touch y c d (y.cores c).want other
other_touches y c d (PostFill name line) other = other_touch y c d (y.cores c).want other
other_touches y c d (Back line kept) other = refl

-- ---- a state with more accesses

-- it has these more, each of an instruction that was retired since
pub record IsTouched (more : List Touch) (v w : State) : Type 0 where
  pub keeps : w.keeps ≡ v.keeps
  pub room : w.touches.room ≡ v.touches.room
  pub touches : HasTouched more v w
  pub retired : w.retired ≡ v.retired + length more
  pub most : w.retired + standing w.pending.want ≤ v.retired + standing v.pending.want

-- one that has none more
pub touched_none : (v w : State) → w.keeps ≡ v.keeps → w.touches ≡ v.touches → w.retired ≡ v.retired
    → standing w.pending.want ≡ standing v.pending.want → IsTouched [] v w
touched_none v w keeps touches retired wants = record {
  keeps = keeps;
  room = ap (λ (r : Reserved Touch). r.room) touches;
  touches = untouched 0 0 [] v w None refl (ap (λ (r : Reserved Touch). r.items) touches);
  retired = omega arith;
  most = omega arith;
}

-- a want that changes stands
pub still_standing : (f : Want → Want) (o : Option Want) → standing (option_map f o) ≡ standing o
still_standing f None = refl
still_standing f (Some want) = refl

-- once the slot is over it has the accesses of the next boundary
pub ended_touches : (job : JobValue) (before more after : List Touch) (most : ℕ) (v w : State) → after ≡ before ++ more → IsTouched more v w
    → HasTouches job before most v → HasTouches job after most (stepped w)
ended_touches job before more after most v w is t h = touches_as job (stepped w) (before ++ more) after most most (sym is) (omega arith)
    (touched_more job v (stepped w) before more most most t.keeps t.room t.touches (let retired = t.retired in omega arith)
    (let within = t.most in let few = h.retired in omega arith) h)

-- ---- room

module _ (job : JobValue) (slot : ℕ) (touches : List Touch) (v : State) (want : Want) (is : IsJob job) (more : slot < job.shape.slots)
    (wants : v.pending.want ≡ Some want) (h : HasTouches job touches ((slot + 1) * job.shape.quantum) v) where
  stands : v.retired + 1 ≤ (slot + 1) * job.shape.quantum
  stands = let few = h.retired in let one : standing v.pending.want ≡ 1 = ap standing wants in omega arith

  -- the instruction of a want can retire
  pub want_retires : v.retired + 1 < 2 ^ 64
  want_retires = let few = stands in let slots = is.shape.slots in let quantum = is.shape.quantum in
      let most : (slot + 1) * job.shape.quantum ≤ 1000000 * 256 = mul-le (slot + 1) job.shape.quantum 1000000 256 (omega arith) (omega arith) in omega arith

  -- and there is room for its access
  pub want_fits : HasTouchRoom v
  want_fits keeps = let few = h.few in let room = h.room keeps in let one = stands in
      let next : slot + 1 ≤ job.shape.slots = omega arith in
      let all : (slot + 1) * job.shape.quantum ≤ job.shape.slots * job.shape.quantum = mul-le-mul_right job.shape.quantum next in omega arith

-- ---- the access of a request that is served

-- it is the owner's
own_touch : (y : Machine) (c : ℕ) (want : Want) → (y.cores c).want ≡ Some want
    → touches_by c (want_touch y c (y.cores c).want) ≡ touch_of y.slot c want.access y.memory ∷ []
own_touch y c want wants = ap (λ (o : Option Want). touches_by c (want_touch y c o)) wants
    ∙ (let same : (c == c) ≡ true = grind arith in ap (λ (b : Bool). if b then touch_of y.slot c want.access y.memory ∷ [] else []) same)

-- a state that serves the want has it more
pub served_touched : (y : Machine) (c : ℕ) (want : Want) (word : ℕ) (v w : State) → (y.cores c).want ≡ Some want → v.pending.want ≡ Some want
    → v.slot ≡ y.slot → v.number ≡ c → covered want.access word ≡ met_bytes want.access y.memory → w.keeps ≡ v.keeps
    → w.touches ≡ (with_touch (touch_on want.access word v) v).touches → w.retired ≡ v.retired + 1 → w.pending.want ≡ None
    → IsTouched (touches_by c (want_touch y c (y.cores c).want)) v w
served_touched y c want word v w mine wants now number met keeps touches retired none =
    subst (λ (more : List Touch). IsTouched more v w)
    (ap (λ (t : Touch). t ∷ []) (touch_is y.slot c y.memory v want.access word now number (sym met)) ∙ sym (own_touch y c want mine))
    (record {
      keeps = keeps;
      room = ap (λ (r : Reserved Touch). r.room) touches;
      touches = ap (λ (r : Reserved Touch). r.items) touches;
      retired = retired;
      most = (let one : standing v.pending.want ≡ 1 = ap standing wants in let over : standing w.pending.want ≡ 0 = ap standing none in omega arith);
    })
