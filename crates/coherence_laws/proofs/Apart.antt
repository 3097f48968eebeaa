-- What a core does in its phase depends on no other core's phase of that slot.
use Rattle.std.proofs.Common.{◌≡◌, ◌≢◌, ◌⊎◌, ℕ, zero, suc, ◌%◌, ◌<◌, ◌≤◌, List, length, get_or, Option, Some, None, refl, sym, ap, ◌∙◌, subst, arith}
use mathlib.Core.Logic.{dite}
use native.Mathlib.Decide.{ℕ_discrete}
use Rattle.pmsi_model.specs.declared.Mode.{Mode}
use Rattle.pmsi_model.specs.declared.Mode.TheVariants.{Shared, Modified}
use Rattle.pmsi_model.specs.Geometry.{line_of}
use Rattle.pmsi_model.specs.Job.{JobValue, IsJob, text_of}
use Rattle.pmsi_model.specs.Machine.{Machine, CoreState, mode_of, mode_in, is_modified, owner_of}
use Rattle.pmsi_model.specs.Phase.{instructions, instruction_touches, context_of, phase, phase_touches, phases}
use Rattle.pmsi_model.specs.Run.{after_phases, machine_at}
use Rattle.pmsi_model.specs.Coherent.{HoldsEachOnce}
use Rattle.pmsi_model.proofs.Owners.{nobody_below, owner_none, owner_same}
use Rattle.coherence_laws.specs.Apart.{line_bytes_in, IsApart, PhasesAreApart}
use Rattle.coherence_laws.proofs.Whole.{OwnedAlone}
use Rattle.coherence_laws.proofs.Slots.{stays_coherent}
use Rattle.coherence_laws.proofs.ApartBytes.{line_bytes-same}
use Rattle.pmsi_model.proofs.Effects.{whole_words}
use Rattle.pmsi_model.proofs.Changes.{phase_end, phase-own, phase-other, phase-memory}
use Rattle.coherence_laws.proofs.ApartPhases.{touches_alike, IsFramed, instructions_framed, IsSeenAlike, instructions_alike}
use Rattle.coherence_laws.proofs.ApartMemory.{machine_memory}
use Rattle.coherence_laws.proofs.Touches.{touches_apart}

-- ---- the phase of one core

-- what holds of the machine at a slot boundary
pub record IsSound (job : JobValue) (x : Machine) : Type 0 where
  pub words : job.shape.memory % 4 ≡ 0
  pub extent : length x.memory ≡ job.shape.memory
  pub once : (c : ℕ) → HoldsEachOnce (x.cores c).held
  pub alone : OwnedAlone x.cores

pub sound_at : (job : JobValue) → IsJob job → (slot : ℕ) → IsSound job (machine_at job slot)
sound_at job is slot = record {
  words = whole_words job.shape.memory job.shape.line_words is.shape.memory;
  extent = (machine_memory job is slot).size;
  once = (stays_coherent job is slot).held_once;
  alone = (stays_coherent job is slot).owned_alone;
}

pub phase_framed : (job : JobValue) (c : ℕ) (x : Machine) → IsSound job x → IsFramed job.shape (context_of x c) (phase_end job c x)
phase_framed job c x s = instructions_framed job.shape x.slot (text_of job c) job.shape.quantum (context_of x c) s.words s.extent (s.once c)

-- a phase depends on its core, and on the bytes of the lines that the core holds
contexts_alike : (job : JobValue) (c : ℕ) (x y : Machine) → IsSound job x → y.slot ≡ x.slot → IsSeenAlike job.shape (context_of x c) (context_of y c)
    → IsSeenAlike job.shape (phase_end job c x) (phase_end job c y)
contexts_alike job c x y s now seen =
    subst (λ (slot : ℕ). IsSeenAlike job.shape (phase_end job c x) (instructions job.shape slot (text_of job c) job.shape.quantum (context_of y c))) (sym now)
    (instructions_alike job.shape x.slot (text_of job c) job.shape.quantum (context_of x c) (context_of y c) s.words (s.once c) s.extent seen)

pub phase_touches_alike : (job : JobValue) (c : ℕ) (x y : Machine) → IsSound job x → y.slot ≡ x.slot → IsSeenAlike job.shape (context_of x c) (context_of y c)
    → phase_touches job c x ≡ phase_touches job c y
unfolding phase_touches
phase_touches_alike job c x y s now seen =
    touches_alike job.shape x.slot c (text_of job c) job.shape.quantum (context_of x c) (context_of y c) s.words (s.once c) s.extent seen
    ∙ ap (λ (slot : ℕ). instruction_touches job.shape slot c (text_of job c) job.shape.quantum (context_of y c)) (sym now)

-- ---- the phases of the first cores, beside the phase of each alone

pub record IsApartTo (job : JobValue) (x : Machine) (count : ℕ) (y : Machine) : Type 0 where
  pub slot : y.slot ≡ x.slot
  pub extent : length y.memory ≡ job.shape.memory
  pub own : (d : ℕ) → d < count → y.cores d ≡ (phase_end job d x).core
  pub rest : (d : ℕ) → count ≤ d → y.cores d ≡ x.cores d
  pub held : (d at : ℕ) → d < count → mode_of (line_of job.shape at) (phase_end job d x).core.held ≢ None
      → get_or y.memory at 0 ≡ get_or (phase_end job d x).memory at 0
  pub unowned : (at : ℕ) → ((d : ℕ) → d < count → mode_in x d (line_of job.shape at) ≢ Some Modified) → get_or y.memory at 0 ≡ get_or x.memory at 0

apart_none : (job : JobValue) (x : Machine) → IsSound job x → IsApartTo job x 0 x
apart_none job x s = record {
  slot = refl;
  extent = s.extent;
  own = λ d below. absurd (omega arith);
  rest = λ d past. refl;
  held = λ d at below. absurd (omega arith);
  unowned = λ at none. refl;
}

module _ (job : JobValue) (x : Machine) (count : ℕ) (y : Machine) (s : IsSound job x) (a : IsApartTo job x count y) where
  -- the next core is as it was
  same_core : y.cores count ≡ x.cores count
  same_core = a.rest count (omega arith)

  -- and so are the bytes of the lines that it holds, since no other core owns these
  pub seen : IsSeenAlike job.shape (context_of x count) (context_of y count)
  seen = record {
    core = sym same_core;
    size = s.extent ∙ sym a.extent;
    held = λ line holds at on. sym (a.unowned at (λ d below owned.
        holds (ap (λ (l : ℕ). mode_of l (x.cores count).held) (sym on) ∙ s.alone d count (line_of job.shape at) owned (omega arith))));
  }

  alike : IsSeenAlike job.shape (phase_end job count x) (phase_end job count y)
  alike = contexts_alike job count x y s a.slot seen

  framed : IsFramed job.shape (context_of y count) (phase_end job count y)
  framed = instructions_framed job.shape y.slot (text_of job count) job.shape.quantum (context_of y count) s.words a.extent
      (subst (λ (k : CoreState). HoldsEachOnce k.held) (sym same_core) (s.once count))

  owned_before : (line : ℕ) → mode_of line (y.cores count).held ≡ Some Modified → mode_of line (x.cores count).held ≡ Some Modified
  owned_before line owned = subst (λ (k : CoreState). mode_of line k.held ≡ Some Modified) same_core owned

  -- what another core holds after its phase this one doesn't own
  not_owned : (d line : ℕ) → d ≢ count → mode_of line (phase_end job d x).core.held ≢ None → mode_of line (y.cores count).held ≢ Some Modified
  not_owned d line other holds owned = let none : mode_of line (x.cores d).held ≡ None = s.alone count d line (owned_before line owned) other in
      let less : (mode_of line (phase_end job d x).core.held ≡ mode_of line (x.cores d).held) ⊎ (mode_of line (phase_end job d x).core.held ≡ None) =
      (phase_framed job d x s).less line in
      grind arith

  apart_next : IsApartTo job x (suc count) (phase job count y)
  unfolding phase
  apart_next = record {
    slot = a.slot;
    extent = framed.size ∙ a.extent;
    own = λ d below. dite (ℕ_discrete d count)
        (λ same. subst (λ (n : ℕ). (phase job count y).cores n ≡ (phase_end job n x).core) (sym same) (phase-own job count y ∙ sym alike.core))
        (λ other. phase-other job count d y other ∙ a.own d (omega arith));
    rest = λ d past. phase-other job count d y (omega arith) ∙ a.rest d (omega arith);
    held = λ d at below holds. dite (ℕ_discrete d count)
        (λ same. subst (λ (n : ℕ). mode_of (line_of job.shape at) (phase_end job n x).core.held ≢ None
        → get_or (phase_end job count y).memory at 0 ≡ get_or (phase_end job n x).memory at 0) (sym same)
        (λ here. sym (alike.held (line_of job.shape at) here at refl)) holds)
        (λ other. framed.others at (not_owned d (line_of job.shape at) other holds) ∙ a.held d at (omega arith) holds);
    unowned = λ at nobody. framed.others at (λ owned. nobody count (omega arith) (owned_before (line_of job.shape at) owned)) ∙ a.unowned at (λ d below. nobody d (omega arith));
  }

pub phases_apart : (job : JobValue) (x : Machine) → IsSound job x → (count : ℕ) → IsApartTo job x count (phases job count x)
unfolding phases
phases_apart job x s zero = apart_none job x s
phases_apart job x s (suc count) = apart_next job x count (phases job count x) s (phases_apart job x s count)

-- a core's accesses are those of its phase alone
pub phases_touches_apart : (job : JobValue) (x : Machine) → IsSound job x → (count : ℕ) → phase_touches job count (phases job count x) ≡ phase_touches job count x
phases_touches_apart job x s count = let y : Machine = phases job count x in let a : IsApartTo job x count (phases job count x) = phases_apart job x s count in
    sym (phase_touches_alike job count x y s a.slot (seen job x count y s a))

-- ---- owners

same_modified : (m n : Option Mode) → (m ≡ n) ⊎ (m ≡ None) → (n ≡ Some Modified → m ≡ Some Modified) → is_modified m ≡ is_modified n
same_modified m None less owned = grind arith
same_modified m (Some Shared) less owned = grind arith
same_modified m (Some Modified) less owned = ap is_modified (owned refl)

pub phases_are_apart_from : (job : JobValue) (x : Machine) → IsSound job x → IsApart job x
phases_are_apart_from job x s = let y : Machine = after_phases job x in let a : IsApartTo job x job.shape.cores (after_phases job x) = phases_apart job x s job.shape.cores in record {
  own = λ c below. a.own c below ∙ sym (phase-own job c x);
  held = λ c line below holds. line_bytes-same job.shape line y.memory (phase job c x).memory
      (a.extent ∙ sym (ap length (phase-memory job c x) ∙ (phase_framed job c x s).size ∙ s.extent))
      (λ at on. a.held c at below (λ none. holds (ap (λ (k : CoreState). mode_of line k.held) (phase-own job c x)
      ∙ subst (λ (l : ℕ). mode_of l (phase_end job c x).core.held ≡ None) on none))
      ∙ ap (λ (m : List ℕ). get_or m at 0) (sym (phase-memory job c x)));
  touches = touches_apart job x job.shape.cores (phases_touches_apart job x s);
  unowned = λ line nobody. line_bytes-same job.shape line y.memory x.memory (a.extent ∙ sym s.extent)
      (λ at on. a.unowned at (λ d below owned. nobody_below y job.shape.cores line nobody d below
      (ap (λ (k : CoreState). mode_of line k.held) (a.own d below) ∙ (phase_framed job d x s).owned line (subst (λ (l : ℕ). mode_in x d l ≡ Some Modified) on owned))));
  owner = λ line. owner_same y x job.shape.cores line (λ d below. ap (λ (k : CoreState). is_modified (mode_of line k.held)) (a.own d below)
      ∙ same_modified (mode_of line (phase_end job d x).core.held) (mode_of line (x.cores d).held)
      ((phase_framed job d x s).less line) ((phase_framed job d x s).owned line));
}

-- after the phases of a slot a line that nobody owns is as before
pub ownerless_line : (job : JobValue) (x : Machine) → IsApart job x → (line : ℕ) → owner_of x job.shape.cores line ≡ None
    → line_bytes_in job.shape line (after_phases job x).memory ≡ line_bytes_in job.shape line x.memory
ownerless_line job x a line none = a.unowned line (owner_none (after_phases job x) job.shape.cores line (a.owner line ∙ none))

pub phases_are_apart : PhasesAreApart
phases_are_apart job is slot = phases_are_apart_from job (machine_at job slot) (sound_at job is slot)
