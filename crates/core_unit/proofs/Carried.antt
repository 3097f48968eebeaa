-- A state that carries a job goes on carrying it. What a core has once its own phase is done, it has when all cores have done
-- theirs.
use Rattle.std.proofs.Common.{◌≡◌, ◌≢◌, ℕ, ◌<◌, ◌==◌, if◌then◌else◌, List, All, length, Option, Some, None, refl, sym, ap, ◌∙◌, subst, arith}
use Rattle.pmsi_model.specs.declared.job.Geometry.{Geometry}
use Rattle.pmsi_model.specs.declared.Mode.{Mode}
use Rattle.pmsi_model.specs.declared.Want.{Want}
use Rattle.pmsi_model.specs.Job.{JobValue}
use Rattle.pmsi_model.specs.Slots.{SlotPlan}
use Rattle.pmsi_model.specs.Machine.{Machine, CoreState, Request, mode_of}
use Rattle.pmsi_model.specs.Phase.{context_of, phase}
use Rattle.pmsi_model.specs.Run.{machine_at, after_phases}
use Rattle.pmsi_model.proofs.Boundaries.{phases-posted}
use Rattle.pmsi_model.proofs.Held.{mode_without}
use Rattle.coherence_laws.specs.Apart.{line_bytes_in, IsApart, IsMemoryOf}
use Rattle.coherence_laws.proofs.Exports.{phases_are_apart, stays_memory}
use Rattle.cache_array.specs.declared.line.CachedLine.{CachedLine}
use Rattle.cache_array.specs.Cache.{held_of, others, words_of}
use Rattle.cache_array.proofs.Exports.{held_of-others, words_of-others}
use Rattle.core_unit.specs.declared.state.State.{State}
use Rattle.core_unit.specs.Copies.{AreCopies}
use Rattle.core_unit.specs.Stands.{Carries, CopiesAgree, IsWantOf, KnowsStates, StandsFor}
use Rattle.core_unit.specs.Parts.{IsPartAfter}
use Rattle.core_unit.proofs.Words.{words_same}

-- ---- a change of a state that carries a job

-- what a job gives its core once and for all
pub record Frame : Type 0 where
  pub number : ℕ
  pub shape : Geometry
  pub plan : SlotPlan
  pub cache : Geometry
  pub cores : ℕ
  pub text : List ℕ

abbrev pub frame_of : State → Frame
frame_of v = record { number = v.number; shape = v.shape; plan = v.plan; cache = v.cache.shape; cores = v.pending.cores; text = v.text }

abbrev pub AreWantsOf : JobValue → State → Type 0
AreWantsOf job v = (want : Want) → v.pending.want ≡ Some want → IsWantOf job want

-- the state with other lines, want and memory still carries the job
pub rebuilt : (job : JobValue) (c : ℕ) (m n : List ℕ) (v u : State) → Carries job c m v → frame_of u ≡ frame_of v
    → length n ≡ length m → All (λ byte. byte < 256) n → CopiesAgree job n u.cache.lines → AreWantsOf job u → Carries job c n u
rebuilt job c m n v u s same bytes small agree want = record {
  within = s.within;
  below = s.below;
  number = ap (λ (f : Frame). f.number) same ∙ s.number;
  shape = ap (λ (f : Frame). f.shape) same ∙ s.shape;
  plan = ap (λ (f : Frame). f.plan) same ∙ s.plan;
  cache = ap (λ (f : Frame). f.cache) same ∙ s.cache;
  cores = ap (λ (f : Frame). f.cores) same ∙ s.cores;
  text = ap (λ (f : Frame). f.text) same ∙ s.text;
  bytes = bytes ∙ s.bytes;
  small = small;
  agree = agree;
  want = want;
}

-- the same memory, with other lines and another want
pub relined : (job : JobValue) (c : ℕ) (memory : List ℕ) (v u : State) → Carries job c memory v → frame_of u ≡ frame_of v
    → CopiesAgree job memory u.cache.lines → AreWantsOf job u → Carries job c memory u
relined job c memory v u s same agree want = rebuilt job c memory memory v u s same refl s.small agree want

-- nothing changes that the job or memory has to do with
pub unchanged : (job : JobValue) (c : ℕ) (memory : List ℕ) (v u : State) → Carries job c memory v → frame_of u ≡ frame_of v
    → u.cache.lines ≡ v.cache.lines → u.pending.want ≡ v.pending.want → Carries job c memory u
unchanged job c memory v u s same lines want = relined job c memory v u s same
    (subst (CopiesAgree job memory) (sym lines) s.agree)
    (λ w wants. s.want w (sym want ∙ wants))

-- ---- a line is dropped

mode_left : (line l : ℕ) (lines : List CachedLine) → mode_of l (held_of (others line lines)) ≡ (if l == line then None else mode_of l (held_of lines))
mode_left line l lines = ap (mode_of l) (held_of-others line lines) ∙ mode_without l line (held_of lines)

-- a dropped line leaves the other copies
pub copies_dropped : (job : JobValue) (memory : List ℕ) (line : ℕ) (lines : List CachedLine) → CopiesAgree job memory lines
    → CopiesAgree job memory (others line lines)
copies_dropped job memory line lines a = record {
  words = λ l place below held. grind (arith, mode_left line l lines, words_of-others line l lines, a.words l place below);
  sizes = λ l held. grind (arith, mode_left line l lines, words_of-others line l lines, a.sizes l);
  within = λ l held. a.within l (grind (arith, mode_left line l lines));
}

-- ---- another memory that has the same bytes on the held lines

abbrev pub SameOnHeld : Geometry → (ℕ → Option Mode) → List ℕ → List ℕ → Type 0
SameOnHeld shape mode m n = (line : ℕ) → mode line ≢ None → line_bytes_in shape line n ≡ line_bytes_in shape line m

copies_along : (shape : Geometry) (m n : List ℕ) (mode : ℕ → Option Mode) (copy : ℕ → List ℕ) → length n ≡ length m → SameOnHeld shape mode m n
    → AreCopies shape.line_words m mode copy → AreCopies shape.line_words n mode copy
copies_along shape m n mode copy size same a = record {
  words = λ line place below held. a.words line place below held ∙ sym (words_same shape line place n m below (same line held));
  sizes = a.sizes;
  within = λ line held. let w = a.within line held in omega arith;
}

pub carries_along : (job : JobValue) (c : ℕ) (m n : List ℕ) (v : State) → IsMemoryOf job n
    → SameOnHeld job.shape (λ line. mode_of line (held_of v.cache.lines)) m n → Carries job c m v → Carries job c n v
carries_along job c m n v is same a = let size : length n ≡ length m = is.size ∙ sym a.bytes in
    rebuilt job c m n v v a refl size is.bytes
    (copies_along job.shape m n (λ line. mode_of line (held_of v.cache.lines)) (λ line. words_of line v.cache.lines) size same a.agree) a.want

-- ---- the phases of the other cores

pub carried : (job : JobValue) (slot c : ℕ) (v : State) → IsPartAfter job slot c v → StandsFor job c (context_of (after_phases job (machine_at job slot)) c) v
carried job slot c v p =
    let x : Machine = machine_at job slot in
    let y : Machine = after_phases job x in
    let s : StandsFor job c (context_of (phase job c x) c) v = p.in_slot.stands in
    let apart : IsApart job x = phases_are_apart job s.carries.within slot in
    let memory = (stays_memory job s.carries.within slot).1 in
    record {
      carries = carries_along job c (phase job c x).memory y.memory v memory
          (λ line held. apart.held c line s.carries.below (λ none. held (ap (λ (k : CoreState). mode_of line k.held) (sym s.core) ∙ none)))
          s.carries;
      core = apart.own c s.carries.below ∙ s.core;
    }

-- phases post nothing
pub knows_carried : (job : JobValue) (slot c : ℕ) (v : State) → IsPartAfter job slot c v → KnowsStates (after_phases job (machine_at job slot)).posted c v
knows_carried job slot c v p = subst (λ (posted : List Request). KnowsStates posted c v) (sym (phases-posted job job.shape.cores (machine_at job slot))) p.in_slot.knows
