-- The phases of the cores keep the facts of all cores.
use Rattle.std.proofs.Common.{◌≡◌, ℕ, zero, suc, ◌+◌, ◌<◌, ◌≤◌, List, None, true, false, refl, sym, subst, inl, arith}
use Rattle.pmsi_model.specs.declared.job.Geometry.{Geometry}
use Rattle.pmsi_model.specs.declared.Access.{Access}
use Rattle.pmsi_model.specs.declared.Status.TheVariants.{Running, Halted}
use Rattle.pmsi_model.specs.Geometry.{line_of}
use Rattle.pmsi_model.specs.Job.{JobValue, text_of}
use Rattle.pmsi_model.specs.Access.{kind_of}
use Rattle.pmsi_model.specs.Effect.{Effect, Next, Memory, Stop}
use Rattle.pmsi_model.specs.Machine.{Machine, Request, CoreState, mode_of}
use Rattle.pmsi_model.specs.Phase.{Context, can_run, after_effect, effect_at, accessed, missed, is_permitted, evicted, touched_line, instruction, instructions, context_of, phase, phases}
use Rattle.pmsi_model.proofs.Held.{touched_mode, dropped_less}
use Rattle.pmsi_model.proofs.Boundaries.{phases-slot}
use Rattle.pmsi_model.proofs.Cases.{by_test}
use Rattle.coherence_laws.proofs.Fine.{IsFine, FineCore, fine_status, fine_touched, fine_missed}
use Rattle.coherence_laws.proofs.Whole.{IsWhole, IsLess, whole_less}

-- a core keeps its facts, and what it holds only gets less
pub record IsKept (shape : Geometry) (slot : ℕ) (posted : List Request) (c : ℕ) (k j : CoreState) : Type 0 where
  pub fine : FineCore shape slot posted c j
  pub less : IsLess k j

runs_of : (k : CoreState) → can_run k ≡ true → (k.status ≡ Running) × (k.want ≡ None)
runs_of k can = (grind arith, grind arith)

accessed_kept : (shape : Geometry) (slot : ℕ) (posted : List Request) (c : ℕ) (access : Access) (x : Context)
    → FineCore shape (slot + 1) posted c x.core → can_run x.core ≡ true
    → IsKept shape (slot + 1) posted c x.core (accessed shape access x).core
accessed_kept shape slot posted c access x f can = let line : ℕ = line_of shape access.address in let k : CoreState = x.core in let r = runs_of k can in record {
  fine = subst (λ w. IsFine shape (slot + 1) posted c (touched_line (mode_of line k.held) line k.held) w k.write_backs k.status) (sym r.1)
      (fine_touched shape (slot + 1) posted c k.held k.write_backs k.status line (mode_of line k.held) (subst (λ w. IsFine shape (slot + 1) posted c k.held w k.write_backs k.status) r.1 f) refl);
  less = λ l. inl (touched_mode line l (mode_of line k.held) k.held refl);
}

missed_kept : (shape : Geometry) (slot : ℕ) (posted : List Request) (c : ℕ) (access : Access) (k : CoreState) → 1 ≤ shape.ways
    → FineCore shape (slot + 1) posted c k → can_run k ≡ true → is_permitted shape access k ≡ false
    → IsKept shape (slot + 1) posted c k (missed shape slot access k)
missed_kept shape slot posted c access k some f can denied = let line : ℕ = line_of shape access.address in let r = runs_of k can in record {
  fine = fine_missed shape slot posted c k.held k.write_backs k.status line (kind_of access.op) access (evicted shape line k.held)
      (subst (λ w. IsFine shape (slot + 1) posted c k.held w k.write_backs k.status) r.1 f) r.0 denied some refl;
  less = λ l. dropped_less l (evicted shape line k.held) k.held;
}

effect_kept : (shape : Geometry) (slot : ℕ) (posted : List Request) (c : ℕ) (e : Effect) (x : Context) → 1 ≤ shape.ways
    → FineCore shape (slot + 1) posted c x.core → can_run x.core ≡ true
    → IsKept shape (slot + 1) posted c x.core (after_effect shape slot e x).core
effect_kept shape slot posted c (Next regs pc) x some f can = record { fine = f; less = λ l. inl refl }
effect_kept shape slot posted c (Stop halt) x some f can = let k : CoreState = x.core in let r = runs_of k can in record {
  fine = subst (λ w. IsFine shape (slot + 1) posted c k.held w k.write_backs (Halted halt)) (sym r.1)
      (fine_status shape (slot + 1) posted c k.held k.write_backs k.status (Halted halt) (subst (λ w. IsFine shape (slot + 1) posted c k.held w k.write_backs k.status) r.1 f));
  less = λ l. inl refl;
}
effect_kept shape slot posted c (Memory access) x some f can =
    by_test (λ (y : Context). IsKept shape (slot + 1) posted c x.core y.core) (is_permitted shape access x.core) (accessed shape access x) (record x { core = missed shape slot access x.core })
    (λ granted. accessed_kept shape slot posted c access x f can)
    (λ denied. missed_kept shape slot posted c access x.core some f can denied)

pub instruction_kept : (shape : Geometry) (slot : ℕ) (text : List ℕ) (posted : List Request) (c : ℕ) (x : Context) → 1 ≤ shape.ways
    → FineCore shape (slot + 1) posted c x.core
    → IsKept shape (slot + 1) posted c x.core (instruction shape slot text x).core
unfolding instruction
instruction_kept shape slot text posted c x some f =
    by_test (λ (y : Context). IsKept shape (slot + 1) posted c x.core y.core) (can_run x.core) (after_effect shape slot (effect_at shape text x.core) x) x
    (λ can. effect_kept shape slot posted c (effect_at shape text x.core) x some f can)
    (λ stays. record { fine = f; less = λ l. inl refl })

less_less : (k j i : CoreState) → IsLess k j → IsLess j i → IsLess k i
less_less k j i first second l = grind (arith, first l, second l)

pub instructions_kept : (shape : Geometry) (slot : ℕ) (text : List ℕ) (posted : List Request) (c : ℕ) (count : ℕ) (x : Context)
    → 1 ≤ shape.ways → FineCore shape (slot + 1) posted c x.core
    → IsKept shape (slot + 1) posted c x.core (instructions shape slot text count x).core
unfolding instructions
instructions_kept shape slot text posted c zero x some f = record { fine = f; less = λ l. inl refl }
instructions_kept shape slot text posted c (suc count) x some f =
    let y : Context = instructions shape slot text count x in
    let before = instructions_kept shape slot text posted c count x some f in
    let last = instruction_kept shape slot text posted c y some before.fine in
    record { fine = last.fine; less = less_less x.core y.core (instruction shape slot text y).core before.less last.less }

pub phase_whole : (job : JobValue) (c : ℕ) (x : Machine) → 1 ≤ job.shape.ways → c < job.shape.cores
    → IsWhole job.shape (x.slot + 1) x.posted x.cores
    → IsWhole job.shape (x.slot + 1) (phase job c x).posted (phase job c x).cores
unfolding phase
phase_whole job c x some below w =
    let k : CoreState = (instructions job.shape x.slot (text_of job c) job.shape.quantum (context_of x c)).core in
    let kept : IsKept job.shape (x.slot + 1) x.posted c (x.cores c) k =
    instructions_kept job.shape x.slot (text_of job c) x.posted c job.shape.quantum (context_of x c) some (w.fine c) in
    whole_less job.shape (x.slot + 1) x.posted x.cores c k w below kept.fine kept.less

pub phases_whole : (job : JobValue) (count : ℕ) (x : Machine) → 1 ≤ job.shape.ways → count ≤ job.shape.cores
    → IsWhole job.shape (x.slot + 1) x.posted x.cores
    → IsWhole job.shape (x.slot + 1) (phases job count x).posted (phases job count x).cores
unfolding phases
phases_whole job zero x some within w = w
phases_whole job (suc count) x some within w =
    let y : Machine = phases job count x in
    let same : y.slot ≡ x.slot = phases-slot job count x in
    let before : IsWhole job.shape (x.slot + 1) y.posted y.cores = phases_whole job count x some (omega arith) w in
    subst (λ (s : ℕ). IsWhole job.shape (s + 1) (phase job count y).posted (phase job count y).cores) same
    (phase_whole job count y some (omega arith) (subst (λ (s : ℕ). IsWhole job.shape (s + 1) y.posted y.cores) (sym same) before))
