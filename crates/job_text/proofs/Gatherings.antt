-- What is kept once more was said.
use Rattle.std.proofs.Common.{◌≡◌, ◌≢◌, ◌⊎◌, inl, inr, ℕ, zero, suc, ◌<◌, cond, List, [], ◌∷◌, ◌++◌, length, get_or, set, Global, Vec, Option, Some, None, refl, sym, ◌∙◌, ap, subst, arith}
use Rattle.std.specs.Option.{option_or}
use Rattle.std.specs.Ordering.{nat_cmp}
use Rattle.std.specs.BTreeMap.{BTreeMap, get, is_at}
use Rattle.std.proofs.lemmas.List.{get_or-set_same, get_or-set_other}
use Rattle.std.proofs.lemmas.Bool.{cases_eq}
use Rattle.std.proofs.lemmas.Bool.Decides.{nat_tests}
use Rattle.job_text.specs.declared.gathered.Gathered.{Gathered}
use Rattle.job_text.specs.declared.job_fault.HeadWord.{HeadWord}
use Rattle.job_text.specs.declared.plan.Program.{Program}
use Rattle.job_text.specs.declared.saying.Saying.{Saying}
use Rattle.job_text.specs.declared.saying.Saying.TheVariants.{Sets, Runs}
use Rattle.job_text.specs.Faults.{cores_in, number_at, number_of, place_of, program_of}
use Rattle.job_text.specs.Gathering.{HasSaid}
use Rattle.job_text.proofs.SayingLists.{number_at_push, program_of_push, cores_in_push, cores_in_same}

or_none : {A : Type 0} (first : Option A) → option_or first None ≡ first
or_none None = refl
or_none (Some a) = refl

abbrev no_numbers : List (Option ℕ)
no_numbers = None ∷ None ∷ None ∷ None ∷ None ∷ None ∷ None ∷ None ∷ None ∷ []

none_at : (place : ℕ) → get_or no_numbers place None ≡ None
none_at zero = refl
none_at (suc zero) = refl
none_at (suc (suc zero)) = refl
none_at (suc (suc (suc zero))) = refl
none_at (suc (suc (suc (suc zero)))) = refl
none_at (suc (suc (suc (suc (suc zero))))) = refl
none_at (suc (suc (suc (suc (suc (suc zero)))))) = refl
none_at (suc (suc (suc (suc (suc (suc (suc zero))))))) = refl
none_at (suc (suc (suc (suc (suc (suc (suc (suc zero)))))))) = refl
none_at (suc (suc (suc (suc (suc (suc (suc (suc (suc place))))))))) = refl

-- no lines say nothing
pub nothing_said : (gathered : Gathered) → gathered.numbers ≡ no_numbers → gathered.cores.items ≡ [] → gathered.programs.entries ≡ [] → HasSaid gathered []
unfolding number_at program_of cores_in
nothing_said gathered numbers cores programs = record {
  numbers = λ place low. rw numbers (none_at place);
  cores = cores;
  programs = λ core. rw programs refl;
}

number_here : (word : HeadWord) (number k : ℕ) → k ≡ place_of word → number_at k (Sets word number ∷ []) ≡ Some number
unfolding number_at
number_here word number k e = rw e (grind (arith, nat_tests))

number_else : (word : HeadWord) (number k : ℕ) → k ≢ place_of word → number_at k (Sets word number ∷ []) ≡ None
unfolding number_at
number_else word number k e = grind (arith, nat_tests)

set_by : (numbers : List (Option ℕ)) (said : List Saying) (word : HeadWord) (number k : ℕ) → (k ≡ place_of word) ⊎ (k ≢ place_of word) → place_of word < length numbers
    → number_of word said ≡ None → get_or numbers k None ≡ number_at k said → get_or (set numbers (place_of word) (Some number)) k None ≡ number_at k (said ++ Sets word number ∷ [])
set_by numbers said word number k (inl e) low none is =
    let here : get_or (set numbers (place_of word) (Some number)) k None ≡ Some number = rw e (get_or-set_same numbers (place_of word) (Some number) None low) in
    here ∙ sym (number_at_push k said (Sets word number) ∙ ap (λ (m : Option ℕ). option_or m (number_at k (Sets word number ∷ []))) (ap (λ (j : ℕ). number_at j said) e ∙ none) ∙ number_here word number k e)
set_by numbers said word number k (inr e) low none is =
    get_or-set_other numbers (place_of word) k (Some number) None e ∙ is
    ∙ sym (number_at_push k said (Sets word number) ∙ ap (option_or (number_at k said)) (number_else word number k e) ∙ or_none (number_at k said))

unchanged_programs : (said : List Saying) (word : HeadWord) (number core : ℕ) → program_of core said ≡ program_of core (said ++ Sets word number ∷ [])
unfolding program_of
unchanged_programs said word number core = sym (program_of_push core said (Sets word number) ∙ or_none (program_of core said))

pub number_said : (gathered : Gathered) (said : List Saying) (word : HeadWord) (number place : ℕ) → HasSaid gathered said → number_of word said ≡ None → place ≡ place_of word → place < length gathered.numbers
    → HasSaid (record { numbers = set gathered.numbers place (Some number); cores = gathered.cores; programs = gathered.programs }) (said ++ Sets word number ∷ [])
number_said gathered said word number place has none e low = record {
  numbers = λ k inside. subst (λ (p : ℕ). get_or (set gathered.numbers p (Some number)) k None ≡ number_at k (said ++ Sets word number ∷ [])) (sym e)
      (set_by gathered.numbers said word number k (cases_eq k (place_of word)) (subst (λ (p : ℕ). p < length gathered.numbers) e low) none (has.numbers k inside));
  cores = has.cores ∙ sym (cores_in_same said word number);
  programs = λ core. has.programs core ∙ unchanged_programs said word number core;
}

unchanged_numbers : (said : List Saying) (core k : ℕ) (program : Program) → number_at k said ≡ number_at k (said ++ Runs core program ∷ [])
unfolding number_at
unchanged_numbers said core k program = sym (number_at_push k said (Runs core program) ∙ or_none (number_at k said))

put_by : (said : List Saying) (core q : ℕ) (program : Program) (now : Option Program) → program_of core said ≡ None → now ≡ cond (is_at (nat_cmp core) q) (Some program) (program_of q said)
    → (q ≡ core) ⊎ (q ≢ core) → now ≡ program_of q (said ++ Runs core program ∷ [])
unfolding program_of
put_by said core q program now none is (inl e) =
    let here : now ≡ Some program = is ∙ rw e (grind (arith, nat_tests)) in
    here ∙ sym (program_of_push q said (Runs core program) ∙ ap (λ (p : Option Program). option_or p (program_of q (Runs core program ∷ []))) (ap (λ (c : ℕ). program_of c said) e ∙ none) ∙ rw e (grind (arith, nat_tests)))
put_by said core q program now none is (inr e) =
    let else : now ≡ program_of q said = is ∙ grind (arith, nat_tests) in
    let last : program_of q (Runs core program ∷ []) ≡ None = grind (arith, nat_tests) in
    else ∙ sym (program_of_push q said (Runs core program) ∙ ap (option_or (program_of q said)) last ∙ or_none (program_of q said))

pub program_said : (gathered : Gathered) (said : List Saying) (core : ℕ) (program : Program) (programs : BTreeMap ℕ Program) (cores : Vec ℕ Global) → HasSaid gathered said → program_of core said ≡ None
    → cores.items ≡ gathered.cores.items ++ core ∷ []
    → ((q : ℕ) → get nat_cmp programs q ≡ cond (is_at (nat_cmp core) q) (Some program) (get nat_cmp gathered.programs q))
    → HasSaid (record { numbers = gathered.numbers; cores = cores; programs = programs }) (said ++ Runs core program ∷ [])
program_said gathered said core program programs cores has none more put = record {
  numbers = λ k low. has.numbers k low ∙ unchanged_numbers said core k program;
  cores = more ∙ ap (λ known. known ++ core ∷ []) has.cores ∙ sym (cores_in_push said core program);
  programs = λ q. put_by said core q program (get nat_cmp programs q) none (put q ∙ ap (cond (is_at (nat_cmp core) q) (Some program)) (has.programs q)) (cases_eq q core);
}
