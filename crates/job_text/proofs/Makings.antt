-- A plan is made of what all lines say.
use Rattle.std.proofs.Common.{◌≡◌, ◌≢◌, ◌⊎◌, inl, inr, ℕ, zero, suc, ◌+◌, ◌<◌, ◌≤◌, ◌^◌, Bool, true, false, cond, List, [], ◌∷◌, ◌++◌, map, length, drop, get_or, Option, Some, None, refl, sym, ◌∙◌, ap, subst, arith, option_map, length-append}
use Rattle.std.specs.Prelude.{is_none, slice_get}
use Rattle.std.specs.List.{find, range_with_len}
use Rattle.std.specs.Option.{unwrap_or}
use Rattle.std.specs.Ordering.{nat_cmp}
use Rattle.std.specs.BTreeMap.{BTreeMap, get, is_at}
use Rattle.std.proofs.lemmas.Bool.{cases_eq}
use Rattle.std.proofs.lemmas.Bool.Decides.{nat_tests}
use Rattle.std.proofs.lemmas.List.FromFn.{length-range_with_len, get_or-range_with_len}
use Rattle.job_text.specs.declared.job_fault.HeadWord.{HeadWord}
use Rattle.job_text.specs.declared.job_fault.HeadWord.TheVariants as head
use Rattle.job_text.specs.declared.job_fault.JobFault.{JobFault}
use Rattle.job_text.specs.declared.job_fault.JobFault.TheVariants.{Missing, Limit}
use Rattle.job_text.specs.declared.plan.Program.{Program}
use Rattle.job_text.specs.declared.saying.Saying.{Saying}
use Rattle.job_text.specs.Faults.{core_limit, cores_below, first_of, head_limit, heads_limit, is_within, missing_core, missing_head, number_of, program_of, said_fault, shape_heads, text_limit, value_of, words_limit}
use Rattle.job_text.specs.Plans.{SaysPrograms, SaysShape}
use Rattle.job_text.proofs.Searches.{first_next, first_here, first_end}

-- ---- the steps in their order

module _ (said : List Saying) where
  pub no_head : (fault : JobFault) → missing_head said ≡ Some fault → said_fault said ≡ Some fault
  unfolding said_fault first_of
  no_head fault is = rw is refl

  pub head_past : (fault : JobFault) → missing_head said ≡ None → heads_limit said ≡ Some fault → said_fault said ≡ Some fault
  unfolding said_fault first_of
  head_past fault one is = rw (one, is) refl

  pub core_past : (fault : JobFault) → missing_head said ≡ None → heads_limit said ≡ None → core_limit said ≡ Some fault → said_fault said ≡ Some fault
  unfolding said_fault first_of
  core_past fault one two is = rw (one, two, is) refl

  pub no_core : (fault : JobFault) → missing_head said ≡ None → heads_limit said ≡ None → core_limit said ≡ None → missing_core said ≡ Some fault → said_fault said ≡ Some fault
  unfolding said_fault first_of
  no_core fault one two three is = rw (one, two, three, is) refl

  pub long_text : (fault : JobFault) → missing_head said ≡ None → heads_limit said ≡ None → core_limit said ≡ None → missing_core said ≡ None → text_limit said ≡ Some fault → said_fault said ≡ Some fault
  unfolding said_fault first_of
  long_text fault one two three four is = rw (one, two, three, four, is) refl

  pub faultless : missing_head said ≡ None → heads_limit said ≡ None → core_limit said ≡ None → missing_core said ≡ None → text_limit said ≡ None → said_fault said ≡ None
  unfolding said_fault first_of
  faultless one two three four five = rw (one, two, three, four, five) refl

-- ---- the numbers of the shape

pub first_none : {A : Type 0} (first : Option A) (others : List (Option A)) → first_of (first ∷ others) ≡ None → (first ≡ None) × (first_of others ≡ None)
unfolding first_of
first_none None others e = (refl, e)
first_none (Some a) others e = absurd cc

limit_by : (within : Bool) (word : HeadWord) (value : ℕ) → cond within None (Some (Limit word value)) ≡ None → within ≡ true
limit_by true word value e = refl
limit_by false word value e = absurd cc

within_here : (said : List Saying) (word : HeadWord) (words : List HeadWord) → first_of (map (head_limit said) (word ∷ words)) ≡ None
    → (is_within (value_of head.Line said) word (value_of word said) ≡ true) × (first_of (map (head_limit said) words) ≡ None)
within_here said word words e =
    let parts = first_none (head_limit said word) (map (head_limit said) words) e in
    (limit_by (is_within (value_of head.Line said) word (value_of word said)) word (value_of word said) parts.0, parts.1)

pub record AreWithin (said : List Saying) : Type 0 where
  pub cores : is_within (value_of head.Line said) head.Cores (value_of head.Cores said) ≡ true
  pub quantum : is_within (value_of head.Line said) head.Quantum (value_of head.Quantum said) ≡ true
  pub line_words : is_within (value_of head.Line said) head.Line (value_of head.Line said) ≡ true
  pub sets : is_within (value_of head.Line said) head.Sets (value_of head.Sets said) ≡ true
  pub ways : is_within (value_of head.Line said) head.Ways (value_of head.Ways said) ≡ true
  pub memory : is_within (value_of head.Line said) head.Memory (value_of head.Memory said) ≡ true
  pub slots : is_within (value_of head.Line said) head.Slots (value_of head.Slots said) ≡ true

pub are_within : (said : List Saying) → heads_limit said ≡ None → AreWithin said
unfolding heads_limit
are_within said e =
    let a = within_here said head.Cores (head.Quantum ∷ head.Line ∷ head.Sets ∷ head.Ways ∷ head.Memory ∷ head.Slots ∷ []) e in
    let b = within_here said head.Quantum (head.Line ∷ head.Sets ∷ head.Ways ∷ head.Memory ∷ head.Slots ∷ []) a.1 in
    let c = within_here said head.Line (head.Sets ∷ head.Ways ∷ head.Memory ∷ head.Slots ∷ []) b.1 in
    let d = within_here said head.Sets (head.Ways ∷ head.Memory ∷ head.Slots ∷ []) c.1 in
    let f = within_here said head.Ways (head.Memory ∷ head.Slots ∷ []) d.1 in
    let g = within_here said head.Memory (head.Slots ∷ []) f.1 in
    let h = within_here said head.Slots [] g.1 in
    record { cores = a.0; quantum = b.0; line_words = c.0; sets = d.0; ways = f.0; memory = g.0; slots = h.0 }

missing_by : (lacks : Bool) (word : HeadWord) (others : Option HeadWord) → option_map Missing (cond lacks (Some word) others) ≡ None → (lacks ≡ false) × (option_map Missing others ≡ None)
missing_by true word others e = absurd cc
missing_by false word others e = (refl, e)

some_value : (found : Option ℕ) → is_none found ≡ false → found ≡ Some (unwrap_or found 0)
some_value None e = absurd cc
some_value (Some n) e = refl

given_here : (said : List Saying) (word : HeadWord) (words : List HeadWord) → option_map Missing (find (λ word. is_none (number_of word said)) (word ∷ words)) ≡ None
    → (number_of word said ≡ Some (value_of word said)) × (option_map Missing (find (λ word. is_none (number_of word said)) words) ≡ None)
given_here said word words e =
    let parts = missing_by (is_none (number_of word said)) word (find (λ word. is_none (number_of word said)) words) e in
    (some_value (number_of word said) parts.0, parts.1)

pub record AreGiven (said : List Saying) : Type 0 where
  pub cores : number_of head.Cores said ≡ Some (value_of head.Cores said)
  pub quantum : number_of head.Quantum said ≡ Some (value_of head.Quantum said)
  pub line_words : number_of head.Line said ≡ Some (value_of head.Line said)
  pub sets : number_of head.Sets said ≡ Some (value_of head.Sets said)
  pub ways : number_of head.Ways said ≡ Some (value_of head.Ways said)
  pub memory : number_of head.Memory said ≡ Some (value_of head.Memory said)
  pub slots : number_of head.Slots said ≡ Some (value_of head.Slots said)

pub are_given : (said : List Saying) → missing_head said ≡ None → AreGiven said
unfolding missing_head
are_given said e =
    let z = given_here said head.Version shape_heads e in
    let a = given_here said head.Cores (head.Quantum ∷ head.Line ∷ head.Sets ∷ head.Ways ∷ head.Memory ∷ head.Slots ∷ []) z.1 in
    let b = given_here said head.Quantum (head.Line ∷ head.Sets ∷ head.Ways ∷ head.Memory ∷ head.Slots ∷ []) a.1 in
    let c = given_here said head.Line (head.Sets ∷ head.Ways ∷ head.Memory ∷ head.Slots ∷ []) b.1 in
    let d = given_here said head.Sets (head.Ways ∷ head.Memory ∷ head.Slots ∷ []) c.1 in
    let f = given_here said head.Ways (head.Memory ∷ head.Slots ∷ []) d.1 in
    let g = given_here said head.Memory (head.Slots ∷ []) f.1 in
    let h = given_here said head.Slots [] g.1 in
    record { cores = a.0; quantum = b.0; line_words = c.0; sets = d.0; ways = f.0; memory = g.0; slots = h.0 }

cores_small : (line n : ℕ) → is_within line head.Cores n ≡ true → n < 2 ^ 32
unfolding is_within
cores_small line n e = grind (arith, nat_tests)

quantum_small : (line n : ℕ) → is_within line head.Quantum n ≡ true → n < 2 ^ 32
unfolding is_within
quantum_small line n e = grind (arith, nat_tests)

line_small : (line n : ℕ) → is_within line head.Line n ≡ true → n < 2 ^ 32
unfolding is_within
line_small line n e = grind (arith, nat_tests)

sets_small : (line n : ℕ) → is_within line head.Sets n ≡ true → n < 2 ^ 32
unfolding is_within
sets_small line n e = grind (arith, nat_tests)

ways_small : (line n : ℕ) → is_within line head.Ways n ≡ true → n < 2 ^ 32
unfolding is_within
ways_small line n e = grind (arith, nat_tests)

memory_small : (line n : ℕ) → is_within line head.Memory n ≡ true → n < 2 ^ 32
unfolding is_within
memory_small line n e = grind (arith, nat_tests)

slots_small : (line n : ℕ) → is_within line head.Slots n ≡ true → n < 2 ^ 32
unfolding is_within
slots_small line n e = grind (arith, nat_tests)

-- a number that is that of a head where it has 32 bits
abbrev pub IsNumberOf : List Saying → HeadWord → ℕ → Type 0
IsNumberOf said word n = value_of word said < 2 ^ 32 → n ≡ value_of word said

pub shape_said : (said : List Saying) (cores quantum line_words sets ways memory slots : ℕ) → missing_head said ≡ None → heads_limit said ≡ None
    → IsNumberOf said head.Cores cores → IsNumberOf said head.Quantum quantum → IsNumberOf said head.Line line_words → IsNumberOf said head.Sets sets
    → IsNumberOf said head.Ways ways → IsNumberOf said head.Memory memory → IsNumberOf said head.Slots slots
    → SaysShape said (record { cores = cores; quantum = quantum; line_words = line_words; sets = sets; ways = ways; memory = memory; slots = slots })
shape_said said cores quantum line_words sets ways memory slots none limits a b c d f g h =
    let given = are_given said none in
    let within = are_within said limits in
    let line = value_of head.Line said in
    record {
      cores = given.cores ∙ ap Some (sym (a (cores_small line (value_of head.Cores said) within.cores)));
      quantum = given.quantum ∙ ap Some (sym (b (quantum_small line (value_of head.Quantum said) within.quantum)));
      line_words = given.line_words ∙ ap Some (sym (c (line_small line (value_of head.Line said) within.line_words)));
      sets = given.sets ∙ ap Some (sym (d (sets_small line (value_of head.Sets said) within.sets)));
      ways = given.ways ∙ ap Some (sym (f (ways_small line (value_of head.Ways said) within.ways)));
      memory = given.memory ∙ ap Some (sym (g (memory_small line (value_of head.Memory said) within.memory)));
      slots = given.slots ∙ ap Some (sym (h (slots_small line (value_of head.Slots said) within.slots)));
    }

pub said_cores : (said : List Saying) (n : ℕ) → number_of head.Cores said ≡ Some n → n ≡ value_of head.Cores said
said_cores said n e = sym (ap (λ found. unwrap_or found 0) e)

-- ---- the programs

get_before : (programs : List Program) (program : Program) (k : ℕ) → k < length programs → slice_get (programs ++ program ∷ []) k ≡ slice_get programs k
get_before [] program k low = absurd (omega arith)
get_before (first ∷ programs) program zero low = refl
get_before (first ∷ programs) program (suc k) low = get_before programs program k (omega arith)

get_behind : (programs : List Program) (program : Program) → slice_get (programs ++ program ∷ []) (length programs) ≡ Some program
get_behind [] program = refl
get_behind (first ∷ programs) program = get_behind programs program

-- the programs of the cores below one were taken
pub record IsTaken (said : List Saying) (cores core : ℕ) (map_left : BTreeMap ℕ Program) (programs : List Program) : Type 0 where
  pub left : (q : ℕ) → core ≤ q → get nat_cmp map_left q ≡ program_of q said
  pub limit : text_limit said ≡ first_of (map (λ core. words_limit core (program_of core said)) (drop core (range_with_len 0 cores)))
  pub count : length programs ≡ core
  pub each : (k : ℕ) → k < core → slice_get programs k ≡ program_of k said

pub taken_start : (said : List Saying) (cores : ℕ) (left : BTreeMap ℕ Program) → cores ≡ value_of head.Cores said → ((q : ℕ) → get nat_cmp left q ≡ program_of q said) → IsTaken said cores 0 left []
unfolding text_limit
taken_start said cores left e has = record {
  left = λ q from. has q;
  limit = rw e refl;
  count = refl;
  each = λ k low. absurd (omega arith);
}

other_key : (core q : ℕ) (now before : Option Program) → core + 1 ≤ q → now ≡ cond (is_at (nat_cmp core) q) None before → now ≡ before
other_key core q now before from e = e ∙ grind (arith, nat_tests)

pub here_at : (cores core : ℕ) → core < cores → get_or (range_with_len 0 cores) core 0 ≡ core
here_at cores core low = get_or-range_with_len 0 cores core 0 low ∙ omega arith

each_by : (said : List Saying) (core k : ℕ) (programs : List Program) (program : Program) → length programs ≡ core → ((j : ℕ) → j < core → slice_get programs j ≡ program_of j said) → program_of core said ≡ Some program
    → k < core + 1 → (k ≡ core) ⊎ (k ≢ core) → slice_get (programs ++ program ∷ []) k ≡ program_of k said
each_by said core k programs program count each is low (inl e) =
    rw (e, is) (subst (λ (n : ℕ). slice_get (programs ++ program ∷ []) n ≡ Some program) count (get_behind programs program))
each_by said core k programs program count each is low (inr other) =
    let below : k < core = omega arith in
    get_before programs program k (omega arith) ∙ each k below

pub taken_more : (said : List Saying) (cores core : ℕ) (left next : BTreeMap ℕ Program) (programs more : List Program) (program : Program) → core < cores → IsTaken said cores core left programs
    → Some program ≡ get nat_cmp left core → words_limit core (Some program) ≡ None → ((q : ℕ) → get nat_cmp next q ≡ cond (is_at (nat_cmp core) q) None (get nat_cmp left q)) → more ≡ programs ++ program ∷ []
    → IsTaken said cores (core + 1) next more
taken_more said cores core left next programs more program low t found few gone pushed =
    let is : program_of core said ≡ Some program = sym (found ∙ t.left core (omega arith)) in
    let here : get_or (range_with_len 0 cores) core 0 ≡ core = here_at cores core low in
    let none : words_limit core (program_of core said) ≡ None = rw is few in
    record {
      left = λ q from. other_key core q (get nat_cmp next q) (get nat_cmp left q) from (gone q) ∙ t.left q (omega arith);
      limit = t.limit ∙ first_next (λ c. words_limit c (program_of c said)) (range_with_len 0 cores) core 0 (rw (length-range_with_len 0 cores) low) (rw here none);
      count = rw pushed (omega (arith, length-append programs (program ∷ []), t.count));
      each = λ k below. rw pushed (each_by said core k programs program t.count t.each is below (cases_eq k core));
    }

pub taken_fault : (said : List Saying) (cores core : ℕ) (left : BTreeMap ℕ Program) (programs : List Program) (program : Program) (fault : JobFault) → core < cores → IsTaken said cores core left programs
    → Some program ≡ get nat_cmp left core → words_limit core (Some program) ≡ Some fault → text_limit said ≡ Some fault
taken_fault said cores core left programs program fault low t found long =
    let is : program_of core said ≡ Some program = sym (found ∙ t.left core (omega arith)) in
    let here : get_or (range_with_len 0 cores) core 0 ≡ core = here_at cores core low in
    let some : words_limit core (program_of core said) ≡ Some fault = rw is long in
    t.limit ∙ first_here (λ c. words_limit c (program_of c said)) (range_with_len 0 cores) core 0 fault (rw (length-range_with_len 0 cores) low) (rw here some)

pub taken_end : (said : List Saying) (cores core : ℕ) (left : BTreeMap ℕ Program) (programs : List Program) → core ≡ cores → IsTaken said cores core left programs
    → (text_limit said ≡ None) × SaysPrograms said cores programs
taken_end said cores core left programs end t =
    let all : length (range_with_len 0 cores) ≤ core = rw (length-range_with_len 0 cores) (omega arith) in
    (t.limit ∙ first_end (λ c. words_limit c (program_of c said)) (range_with_len 0 cores) core all, record { count = t.count ∙ end; each = λ k low. t.each k (omega arith) })

none_by : {A : Type 0} (p : A → Bool) (a : A) (found : Bool) (others : Option A) → cond found (Some a) others ≡ None → (found ≡ false) × (others ≡ None)
none_by p a true others e = absurd cc
none_by p a false others e = (refl, e)

pub find_none_at : {A : Type 0} (p : A → Bool) (xs : List A) (i : ℕ) (d : A) → find p xs ≡ None → i < length xs → p (get_or xs i d) ≡ false
find_none_at p [] i d e low = absurd (omega arith)
find_none_at p (x ∷ xs) zero d e low = (none_by p x (p x) (find p xs) e).0
find_none_at p (x ∷ xs) (suc i) d e low = find_none_at p xs i d (none_by p x (p x) (find p xs) e).1 (omega arith)

pub mapped_none : {A B : Type 0} (f : A → B) (found : Option A) → option_map f found ≡ None → found ≡ None
mapped_none f None e = refl
mapped_none f (Some a) e = absurd cc

pub is_there : (said : List Saying) (cores core : ℕ) (left : BTreeMap ℕ Program) (programs : List Program) → cores ≡ value_of head.Cores said → missing_core said ≡ None → core < cores → IsTaken said cores core left programs
    → None ≡ get nat_cmp left core → ⊥
unfolding missing_core
is_there said cores core left programs e none low t gone =
    let lacks : None ≡ program_of core said = gone ∙ t.left core (omega arith) in
    let has : is_none (program_of (get_or (range_with_len 0 cores) core 0) said) ≡ false =
    find_none_at (λ c. is_none (program_of c said)) (range_with_len 0 cores) core 0 (rw e (mapped_none (λ c. Missing (head.Core c)) (find (λ c. is_none (program_of c said)) (cores_below said)) none)) (rw (length-range_with_len 0 cores) low) in
    let same : is_none (program_of core said) ≡ false = subst (λ (c : ℕ). is_none (program_of c said) ≡ false) (here_at cores core low) has in
    let empty : is_none (program_of core said) ≡ true = ap is_none (sym lacks) in
    let both : false ≡ true = sym same ∙ empty in
    absurd cc
