-- A text without a fault has a plan.
use Rattle.std.proofs.Common.{◌≡◌, ◌⊎◌, inl, inr, ℕ, zero, suc, ◌+◌, ◌<◌, ◌≤◌, false, List, [], ◌∷◌, length, get_or, Option, Some, None, refl, ◌∙◌, ap, subst, arith}
use Rattle.std.specs.Prelude.{is_none, slice_get}
use Rattle.std.specs.List.{cons_option, find, range_with_len}
use Rattle.std.proofs.lemmas.List.FromFn.{length-range_with_len}
use Rattle.job_text.specs.declared.job_fault.HeadWord.TheVariants as head
use Rattle.job_text.specs.declared.job_fault.JobFault.{JobFault}
use Rattle.job_text.specs.declared.job_fault.JobFault.TheVariants.{Missing}
use Rattle.job_text.specs.declared.plan.JobPlan.{JobPlan}
use Rattle.job_text.specs.declared.plan.Program.{Program}
use Rattle.job_text.specs.declared.saying.Saying.{Saying}
use Rattle.job_text.specs.Cutting.{rows_of}
use Rattle.job_text.specs.Faults.{core_limit, cores_below, fault_of, heads_limit, missing_core, missing_head, program_of, rows_fault, said_fault, said_in, text_fault, text_limit, value_of}
use Rattle.job_text.specs.Plans.{HasJobFault, IsPlanOf, SaysPrograms, SaysShape}
use Rattle.job_text.specs.Laws.{PlanOrFault}
use Rattle.job_text.proofs.Makings.{AreGiven, are_given, find_none_at, first_none, here_at, mapped_none}

pub said_faultless : (bytes : List ℕ) → fault_of bytes ≡ None → said_fault (said_in bytes) ≡ None
unfolding fault_of
said_faultless bytes e =
    let a = first_none (text_fault bytes) (rows_fault [] (rows_of bytes) ∷ said_fault (said_in bytes) ∷ []) e in
    let b = first_none (rows_fault [] (rows_of bytes)) (said_fault (said_in bytes) ∷ []) a.1 in
    (first_none (said_fault (said_in bytes)) [] b.1).0

pub record IsFaultless (said : List Saying) : Type 0 where
  pub heads : missing_head said ≡ None
  pub limits : heads_limit said ≡ None
  pub cores : missing_core said ≡ None
  pub texts : text_limit said ≡ None

pub parts : (said : List Saying) → said_fault said ≡ None → IsFaultless said
unfolding said_fault
parts said e =
    let a = first_none (missing_head said) (heads_limit said ∷ core_limit said ∷ missing_core said ∷ text_limit said ∷ []) e in
    let b = first_none (heads_limit said) (core_limit said ∷ missing_core said ∷ text_limit said ∷ []) a.1 in
    let c = first_none (core_limit said) (missing_core said ∷ text_limit said ∷ []) b.1 in
    let d = first_none (missing_core said) (text_limit said ∷ []) c.1 in
    let f = first_none (text_limit said) [] d.1 in
    record { heads = a.0; limits = b.0; cores = d.0; texts = f.0 }

-- ---- the programs of some cores, from one on

programs_from : List Saying → ℕ → ℕ → List Program
programs_from said start zero = []
programs_from said start (suc count) = cons_option (program_of start said) (programs_from said (start + 1) count)

first_program : (found : Option Program) (others : List Program) → is_none found ≡ false → (length (cons_option found others) ≡ suc (length others)) × (slice_get (cons_option found others) 0 ≡ found)
first_program None others e = absurd cc
first_program (Some program) others e = (refl, refl)

later_program : (found : Option Program) (others : List Program) (k : ℕ) → is_none found ≡ false → slice_get (cons_option found others) (suc k) ≡ slice_get others k
later_program None others k e = absurd cc
later_program (Some program) others k e = refl

programs_count : (said : List Saying) (start count : ℕ) → ((core : ℕ) → start ≤ core → core < start + count → is_none (program_of core said) ≡ false) → length (programs_from said start count) ≡ count
unfolding programs_from
programs_count said start zero has = refl
programs_count said start (suc count) has =
    (first_program (program_of start said) (programs_from said (start + 1) count) (has start (omega arith) (omega arith))).0
    ∙ ap suc (programs_count said (start + 1) count (λ core from low. has core (omega arith) (omega arith)))

programs_each : (said : List Saying) (start count k : ℕ) → ((core : ℕ) → start ≤ core → core < start + count → is_none (program_of core said) ≡ false) → k < count
    → slice_get (programs_from said start count) k ≡ program_of (start + k) said
unfolding programs_from
programs_each said start zero k has low = absurd (omega arith)
programs_each said start (suc count) zero has low =
    let same : start + 0 ≡ start = omega arith in
    rw same ((first_program (program_of start said) (programs_from said (start + 1) count) (has start (omega arith) (omega arith))).1)
programs_each said start (suc count) (suc k) has low =
    let same : (start + 1) + k ≡ start + suc k = omega arith in
    later_program (program_of start said) (programs_from said (start + 1) count) k (has start (omega arith) (omega arith))
    ∙ programs_each said (start + 1) count k (λ core from below. has core (omega arith) (omega arith)) (omega arith) ∙ ap (λ core. program_of core said) same

all_there : (said : List Saying) → missing_core said ≡ None → (core : ℕ) → core < value_of head.Cores said → is_none (program_of core said) ≡ false
unfolding missing_core
all_there said none core low =
    let cores = value_of head.Cores said in
    let has : is_none (program_of (get_or (range_with_len 0 (value_of head.Cores said)) core 0) said) ≡ false =
    find_none_at (λ c. is_none (program_of c said)) (range_with_len 0 cores) core 0 (mapped_none (λ c. Missing (head.Core c)) (find (λ c. is_none (program_of c said)) (cores_below said)) none) (rw (length-range_with_len 0 cores) low) in
    subst (λ (c : ℕ). is_none (program_of c said) ≡ false) (here_at cores core low) has

programs_said : (said : List Saying) → missing_core said ≡ None → SaysPrograms said (value_of head.Cores said) (programs_from said 0 (value_of head.Cores said))
programs_said said none =
    let cores = value_of head.Cores said in
    let there = λ (core : ℕ) (from : 0 ≤ core) (low : core < 0 + cores). all_there said none core (omega arith) in
    record {
      count = programs_count said 0 cores there;
      each = λ k low. let same : 0 + k ≡ k = omega arith in programs_each said 0 cores k there low ∙ ap (λ core. program_of core said) same;
    }

shape_said : (said : List Saying) → AreGiven said
    → SaysShape said (record { cores = value_of head.Cores said; quantum = value_of head.Quantum said; line_words = value_of head.Line said; sets = value_of head.Sets said; ways = value_of head.Ways said; memory = value_of head.Memory said; slots = value_of head.Slots said })
shape_said said given =
    record { cores = given.cores; quantum = given.quantum; line_words = given.line_words; sets = given.sets; ways = given.ways; memory = given.memory; slots = given.slots }

either_by : (bytes : List ℕ) (found : Option JobFault) → fault_of bytes ≡ found → ((plan : JobPlan) × IsPlanOf bytes plan) ⊎ ((fault : JobFault) × HasJobFault bytes fault)
either_by bytes (Some fault) e = inr (fault, e)
either_by bytes None e =
    let said = said_in bytes in
    let is = parts (said_in bytes) (said_faultless bytes e) in
    inl (
      record {
        shape = record { cores = value_of head.Cores said; quantum = value_of head.Quantum said; line_words = value_of head.Line said; sets = value_of head.Sets said; ways = value_of head.Ways said; memory = value_of head.Memory said; slots = value_of head.Slots said };
        programs = programs_from said 0 (value_of head.Cores said);
      },
      record { faultless = e; shape = shape_said said (are_given said is.heads); programs = programs_said said is.cores },
    )

pub either : PlanOrFault
either bytes = either_by bytes (fault_of bytes) refl
