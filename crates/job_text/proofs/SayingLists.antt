-- One more saying.
use Rattle.std.proofs.Common.{◌≡◌, ℕ, Bool, true, false, cond, List, [], ◌∷◌, ◌++◌, Option, Some, refl, sym, ap}
use Rattle.std.specs.Prelude.{◌==◌}
use Rattle.std.specs.Option.{option_or}
use Rattle.job_text.specs.declared.job_fault.HeadWord.{HeadWord}
use Rattle.job_text.specs.declared.plan.Program.{Program}
use Rattle.job_text.specs.declared.saying.Saying.{Saying}
use Rattle.job_text.specs.declared.saying.Saying.TheVariants.{Sets, Runs}
use Rattle.job_text.specs.Faults.{cores_in, number_at, place_of, program_of}

or_cond : {A : Type 0} (test : Bool) (a : A) (first second : Option A) → option_or (cond test (Some a) first) second ≡ cond test (Some a) (option_or first second)
or_cond true a first second = refl
or_cond false a first second = refl

pub number_at_push : (place : ℕ) (said : List Saying) (saying : Saying) → number_at place (said ++ saying ∷ []) ≡ option_or (number_at place said) (number_at place (saying ∷ []))
unfolding number_at
number_at_push place [] saying = refl
number_at_push place (Sets word number ∷ said) saying = rw (number_at_push place said saying) (sym (or_cond (place_of word == place) number (number_at place said) (number_at place (saying ∷ []))))
number_at_push place (Runs core program ∷ said) saying = number_at_push place said saying

pub program_of_push : (core : ℕ) (said : List Saying) (saying : Saying) → program_of core (said ++ saying ∷ []) ≡ option_or (program_of core said) (program_of core (saying ∷ []))
unfolding program_of
program_of_push core [] saying = refl
program_of_push core (Sets word number ∷ said) saying = program_of_push core said saying
program_of_push core (Runs other program ∷ said) saying = rw (program_of_push core said saying) (sym (or_cond (other == core) program (program_of core said) (program_of core (saying ∷ []))))

pub cores_in_push : (said : List Saying) (core : ℕ) (program : Program) → cores_in (said ++ Runs core program ∷ []) ≡ cores_in said ++ core ∷ []
unfolding cores_in
cores_in_push [] core program = refl
cores_in_push (Sets word number ∷ said) core program = cores_in_push said core program
cores_in_push (Runs other first ∷ said) core program = ap (λ cores. other ∷ cores) (cores_in_push said core program)

pub cores_in_same : (said : List Saying) (word : HeadWord) (number : ℕ) → cores_in (said ++ Sets word number ∷ []) ≡ cores_in said
unfolding cores_in
cores_in_same [] word number = refl
cores_in_same (Sets other first ∷ said) word number = cores_in_same said word number
cores_in_same (Runs core program ∷ said) word number = ap (λ cores. core ∷ cores) (cores_in_same said word number)
