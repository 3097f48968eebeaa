-- A text's plan is within the limits.
use Rattle.std.proofs.Common.{◌≡◌, ℕ, zero, suc, ◌*◌, ◌%◌, ◌<◌, ◌≤◌, Bool, true, false, cond, List, [], ◌∷◌, map, length, get_or, Option, Some, None, refl, sym, ◌∙◌, ap, subst, arith}
use Rattle.std.specs.Prelude.{◌&&◌, ◌==◌, nat_le, nat_lt}
use Rattle.std.specs.Int.{is_power_of_two}
use Rattle.std.specs.Option.{unwrap_or}
use Rattle.std.proofs.lemmas.Bool.Decides.{nat_tests}
use Rattle.std.proofs.lemmas.List.FromFn.{length-range_with_len}
use Rattle.pmsi_model.specs.declared.limits.TheConstants.{MAX_CORES, MAX_LINE_WORDS, MAX_MEMORY, MAX_QUANTUM, MAX_SETS, MAX_SLOTS, MAX_TEXT_WORDS, MAX_WAYS, MIN_LINE_WORDS, MIN_MEMORY}
use Rattle.job_text.specs.declared.job_fault.HeadWord.{HeadWord}
use Rattle.job_text.specs.declared.job_fault.HeadWord.TheVariants as head
use Rattle.job_text.specs.declared.job_fault.JobFault.{JobFault}
use Rattle.job_text.specs.declared.job_fault.JobFault.TheVariants.{Limit}
use Rattle.job_text.specs.declared.plan.Program.{Program}
use Rattle.job_text.specs.declared.plan.Program.TheVariants.{Asm, Image, Words}
use Rattle.job_text.specs.declared.saying.Saying.{Saying}
use Rattle.job_text.specs.Faults.{cores_below, first_of, is_between, is_within, number_of, program_of, said_in, text_limit, value_of, words_limit}
use Rattle.job_text.specs.Laws.{PlansFit}
use Rattle.job_text.specs.Plans.{HasFewWords}
use Rattle.job_text.proofs.EitherEnd.{parts, said_faultless}
use Rattle.job_text.proofs.Makings.{are_within, first_none, here_at}
use Rattle.job_text.proofs.OneJoin.{get_some}

both : (a b : Bool) → (a && b) ≡ true → (a ≡ true) × (b ≡ true)
both true true e = (refl, refl)
both true false e = absurd cc
both false b e = absurd cc

between : (least greatest n : ℕ) → is_between least greatest n ≡ true → (least ≤ n) × (n ≤ greatest)
between least greatest n e =
    let two = both (nat_le least n) (nat_le n greatest) e in
    (grind (arith, nat_tests, two.0), grind (arith, nat_tests, two.1))

module _ (line n : ℕ) where
  cores_fit : is_within line head.Cores n ≡ true → (1 ≤ n) × (n ≤ MAX_CORES)
  unfolding is_within
  cores_fit e = between 1 MAX_CORES n e

  quantum_fit : is_within line head.Quantum n ≡ true → (1 ≤ n) × (n ≤ MAX_QUANTUM)
  unfolding is_within
  quantum_fit e = between 1 MAX_QUANTUM n e

  line_fit : is_within line head.Line n ≡ true → ((MIN_LINE_WORDS ≤ n) × (n ≤ MAX_LINE_WORDS)) × (is_power_of_two n ≡ true)
  unfolding is_within
  line_fit e = let two = both (is_between MIN_LINE_WORDS MAX_LINE_WORDS n) (is_power_of_two n) e in (between MIN_LINE_WORDS MAX_LINE_WORDS n two.0, two.1)

  sets_fit : is_within line head.Sets n ≡ true → ((1 ≤ n) × (n ≤ MAX_SETS)) × (is_power_of_two n ≡ true)
  unfolding is_within
  sets_fit e = let two = both (is_between 1 MAX_SETS n) (is_power_of_two n) e in (between 1 MAX_SETS n two.0, two.1)

  ways_fit : is_within line head.Ways n ≡ true → (1 ≤ n) × (n ≤ MAX_WAYS)
  unfolding is_within
  ways_fit e = between 1 MAX_WAYS n e

  memory_fit : is_within line head.Memory n ≡ true → ((MIN_MEMORY ≤ n) × (n ≤ MAX_MEMORY)) × (n % (4 * line) ≡ 0)
  unfolding is_within
  memory_fit e =
      let two = both (is_between MIN_MEMORY MAX_MEMORY n && nat_lt 0 line) (n % (4 * line) == 0) e in
      let three = both (is_between MIN_MEMORY MAX_MEMORY n) (nat_lt 0 line) two.0 in
      (between MIN_MEMORY MAX_MEMORY n three.0, grind (arith, nat_tests, two.1))

  slots_fit : is_within line head.Slots n ≡ true → n ≤ MAX_SLOTS
  unfolding is_within
  slots_fit e = grind (arith, nat_tests)

few_test : (words : List ℕ) (fault : JobFault) (test : Bool) → nat_le (length words) MAX_TEXT_WORDS ≡ test → cond test None (Some fault) ≡ None → length words ≤ MAX_TEXT_WORDS
few_test words fault true is e = grind (arith, nat_tests)
few_test words fault false is e = absurd cc

few_by : (core : ℕ) (program : Program) → words_limit core (Some program) ≡ None → HasFewWords program
few_by core (Words words) e = few_test words (Limit (head.Core core) (length words)) (nat_le (length words) MAX_TEXT_WORDS) refl e
few_by core (Asm name) e = tt
few_by core (Image name) e = tt

first_none_at : {X : Type 0} (f : X → Option JobFault) (xs : List X) (k : ℕ) (d : X) → first_of (map f xs) ≡ None → k < length xs → f (get_or xs k d) ≡ None
first_none_at f [] k d e low = absurd (omega arith)
first_none_at f (x ∷ xs) zero d e low = (first_none (f x) (map f xs) e).0
first_none_at f (x ∷ xs) (suc k) d e low = first_none_at f xs k d (first_none (f x) (map f xs) e).1 (omega arith)

few_words : (said : List Saying) (core : ℕ) → text_limit said ≡ None → core < value_of head.Cores said → words_limit core (program_of core said) ≡ None
unfolding text_limit
few_words said core e low =
    let cores = value_of head.Cores said in
    let none = first_none_at (λ c. words_limit c (program_of c said)) (cores_below said) core 0 e (rw (length-range_with_len 0 cores) low) in
    subst (λ c. words_limit c (program_of c said) ≡ None) (here_at cores core low) none

said_value : (said : List Saying) (word : HeadWord) (n : ℕ) → number_of word said ≡ Some n → value_of word said ≡ n
said_value said word n e = ap (λ found. unwrap_or found 0) e

within_of : (said : List Saying) (line : ℕ) (word : HeadWord) (n : ℕ) → number_of word said ≡ Some n → is_within line word (value_of word said) ≡ true → is_within line word n ≡ true
within_of said line word n e within = subst (λ k. is_within line word k ≡ true) (said_value said word n e) within

pub plans_fit : PlansFit
plans_fit bytes plan is =
    let shape = plan.shape in
    let no_fault = parts (said_in bytes) (said_faultless bytes is.faultless) in
    let within = are_within (said_in bytes) no_fault.limits in
    let line = value_of head.Line (said_in bytes) in
    let cores = cores_fit line shape.cores (within_of (said_in bytes) line head.Cores shape.cores is.shape.cores within.cores) in
    let quantum = quantum_fit line shape.quantum (within_of (said_in bytes) line head.Quantum shape.quantum is.shape.quantum within.quantum) in
    let lines = line_fit line shape.line_words (within_of (said_in bytes) line head.Line shape.line_words is.shape.line_words within.line_words) in
    let sets = sets_fit line shape.sets (within_of (said_in bytes) line head.Sets shape.sets is.shape.sets within.sets) in
    let ways = ways_fit line shape.ways (within_of (said_in bytes) line head.Ways shape.ways is.shape.ways within.ways) in
    let memory = memory_fit line shape.memory (within_of (said_in bytes) line head.Memory shape.memory is.shape.memory within.memory) in
    let slots = slots_fit line shape.slots (within_of (said_in bytes) line head.Slots shape.slots is.shape.slots within.slots) in
    record {
      shape = record {
        some_cores = cores.0;
        cores = cores.1;
        some_quantum = quantum.0;
        quantum = quantum.1;
        least_line = lines.0.0;
        greatest_line = lines.0.1;
        line = lines.1;
        greatest_sets = sets.0.1;
        sets = sets.1;
        some_ways = ways.0;
        ways = ways.1;
        least_memory = memory.0.0;
        greatest_memory = memory.0.1;
        memory = subst (λ words. shape.memory % (4 * words) ≡ 0) (said_value (said_in bytes) head.Line shape.line_words is.shape.line_words) memory.1;
        slots = slots;
      };
      count = is.programs.count;
      words = λ core d low.
          let there : core < shape.cores = omega (arith, is.programs.count) in
          let found = sym (get_some plan.programs core d low) ∙ is.programs.each core there in
          let below : core < value_of head.Cores (said_in bytes) = omega (arith, said_value (said_in bytes) head.Cores shape.cores is.shape.cores) in
          few_by core (get_or plan.programs core d) (ap (words_limit core) found ∙ few_words (said_in bytes) core no_fault.texts below);
    }
