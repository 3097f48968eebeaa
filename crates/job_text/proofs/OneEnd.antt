-- A text has one plan at most or one fault at most, and not both.
use Rattle.std.proofs.Common.{◌≡◌, ◌≢◌, ◌⊎◌, inl, inr, ℕ, suc, ◌<◌, List, [], ◌∷◌, length, Option, Some, None, Ok, Err, refl, sym, ◌∙◌, ap, arith}
use Rattle.std.specs.Prelude.{Result, slice_get}
use Rattle.job_text.specs.declared.job_fault.JobFault.{JobFault}
use Rattle.job_text.specs.declared.job_fault.JobFault.TheVariants as faults
use Rattle.job_text.specs.declared.plan.JobPlan.{JobPlan}
use Rattle.job_text.specs.Plans.{HasJobFault, IsPlanOf}
use Rattle.job_text.specs.Laws.{OneFault, OnePlan, PlanOrFaultOnly}

pub some_same : {A : Type 0} (a b : A) → Some a ≡ Some b → a ≡ b
some_same a b e = cc

pub lists_alike : {X : Type 0} (xs ys : List X) → length xs ≡ length ys → ((k : ℕ) → k < length xs → slice_get xs k ≡ slice_get ys k) → xs ≡ ys
lists_alike [] [] e each = refl
lists_alike [] (y ∷ ys) e each = absurd (omega arith)
lists_alike (x ∷ xs) [] e each = absurd (omega arith)
lists_alike (x ∷ xs) (y ∷ ys) e each =
    let first : x ≡ y = some_same x y (each 0 (omega arith)) in
    let others : xs ≡ ys = lists_alike xs ys (omega arith) (λ k low. each (suc k) (omega arith)) in
    λ i. first i ∷ others i

number_same : (found : Option ℕ) (m n : ℕ) → found ≡ Some m → found ≡ Some n → m ≡ n
number_same found m n a b = some_same m n (sym a ∙ b)

same_shape : (bytes : List ℕ) (plan other : JobPlan) → IsPlanOf bytes plan → IsPlanOf bytes other → plan.shape ≡ other.shape
same_shape bytes plan other is also =
    let a = is.shape in
    let b = also.shape in
    let cores = number_same _ plan.shape.cores other.shape.cores a.cores b.cores in
    let quantum = number_same _ plan.shape.quantum other.shape.quantum a.quantum b.quantum in
    let line_words = number_same _ plan.shape.line_words other.shape.line_words a.line_words b.line_words in
    let sets = number_same _ plan.shape.sets other.shape.sets a.sets b.sets in
    let ways = number_same _ plan.shape.ways other.shape.ways a.ways b.ways in
    let memory = number_same _ plan.shape.memory other.shape.memory a.memory b.memory in
    let slots = number_same _ plan.shape.slots other.shape.slots a.slots b.slots in
    λ i. record { cores = cores i; quantum = quantum i; line_words = line_words i; sets = sets i; ways = ways i; memory = memory i; slots = slots i }

pub one_plan : OnePlan
one_plan bytes plan other is also =
    let shape = same_shape bytes plan other is also in
    let count : length plan.programs ≡ length other.programs = is.programs.count ∙ ap (λ s. s.cores) shape ∙ sym also.programs.count in
    let programs = lists_alike plan.programs other.programs count (λ k low.
    is.programs.each k (omega (arith, is.programs.count)) ∙ sym (also.programs.each k (omega (arith, count, also.programs.count)))) in
    λ i. record { shape = shape i; programs = programs i }

pub one_fault : OneFault
one_fault bytes fault other is also = some_same fault other (sym is ∙ also)

pub not_both : PlanOrFaultOnly
not_both bytes plan fault is has = let none = is.faultless in let both : None ≡ Some fault = sym none ∙ has in absurd cc

-- ---- a reader's answers

abbrev IsAnswer : Result JobPlan JobFault → Result JobPlan JobFault → Type 0
IsAnswer result answer = result ≡ answer

pub only_memory : (fault : JobFault) → (fault ≢ faults.NoMemory → ⊥) → fault ≡ faults.NoMemory
only_memory faults.NotText h = absurd (h (λ e. cc))
only_memory (faults.Line number why) h = absurd (h (λ e. cc))
only_memory (faults.Twice word) h = absurd (h (λ e. cc))
only_memory (faults.Missing word) h = absurd (h (λ e. cc))
only_memory (faults.Limit word value) h = absurd (h (λ e. cc))
only_memory (faults.Beyond core address) h = absurd (h (λ e. cc))
only_memory (faults.Overlap core other address) h = absurd (h (λ e. cc))
only_memory faults.NoMemory h = refl

pub reads_by : (bytes : List ℕ) (found plan : JobPlan) → IsPlanOf bytes found → IsPlanOf bytes plan → IsAnswer (Ok found) (Ok plan) ⊎ IsAnswer (Ok found) (Err faults.NoMemory)
reads_by bytes found plan is also = inl (ap Ok (one_plan bytes found plan is also))

pub refuses_plan : (bytes : List ℕ) (fault : JobFault) (plan : JobPlan) → (fault ≢ faults.NoMemory → HasJobFault bytes fault) → IsPlanOf bytes plan → IsAnswer (Err fault) (Ok plan) ⊎ IsAnswer (Err fault) (Err faults.NoMemory)
refuses_plan bytes fault plan h is = inr (ap Err (only_memory fault (λ free. not_both bytes plan fault is (h free))))

pub reads_faulty : (bytes : List ℕ) (plan : JobPlan) (fault : JobFault) → IsPlanOf bytes plan → HasJobFault bytes fault → IsAnswer (Ok plan) (Err fault) ⊎ IsAnswer (Ok plan) (Err faults.NoMemory)
reads_faulty bytes plan fault is has = absurd (not_both bytes plan fault is has)

refuses_by : (bytes : List ℕ) (found fault : JobFault) → (found ≡ faults.NoMemory) ⊎ (found ≢ faults.NoMemory) → (found ≢ faults.NoMemory → HasJobFault bytes found) → HasJobFault bytes fault
    → IsAnswer (Err found) (Err fault) ⊎ IsAnswer (Err found) (Err faults.NoMemory)
refuses_by bytes found fault (inl memory) h has = inr (ap Err memory)
refuses_by bytes found fault (inr free) h has = inl (ap Err (one_fault bytes found fault (h free) has))

pub is_memory : (fault : JobFault) → (fault ≡ faults.NoMemory) ⊎ (fault ≢ faults.NoMemory)
is_memory faults.NotText = inr (λ e. cc)
is_memory (faults.Line number why) = inr (λ e. cc)
is_memory (faults.Twice word) = inr (λ e. cc)
is_memory (faults.Missing word) = inr (λ e. cc)
is_memory (faults.Limit word value) = inr (λ e. cc)
is_memory (faults.Beyond core address) = inr (λ e. cc)
is_memory (faults.Overlap core other address) = inr (λ e. cc)
is_memory faults.NoMemory = inl refl

pub refuses_faulty : (bytes : List ℕ) (found fault : JobFault) → (found ≢ faults.NoMemory → HasJobFault bytes found) → HasJobFault bytes fault → IsAnswer (Err found) (Err fault) ⊎ IsAnswer (Err found) (Err faults.NoMemory)
refuses_faulty bytes found fault h has = refuses_by bytes found fault (is_memory found) h has
