-- The accesses of one core among those of the phases of several.
use Rattle.std.proofs.Common.{◌≡◌, ◌≢◌, ℕ, zero, suc, ◌<◌, ◌≤◌, List, [], ◌∷◌, ◌++◌, Bool, true, false, ◌==◌, Option, Some, None, if◌then◌else◌, refl, sym, ap, ◌∙◌, subst, append-nil, arith}
use mathlib.Core.Logic.{dite}
use native.Mathlib.Decide.{ℕ_discrete}
use Rattle.std.proofs.lemmas.List.Elements.{filter-append}
use Rattle.pmsi_model.specs.declared.Access.{Access}
use Rattle.pmsi_model.specs.declared.Touch.{Touch}
use Rattle.pmsi_model.specs.declared.job.Geometry.{Geometry}
use Rattle.pmsi_model.specs.Job.{JobValue, text_of}
use Rattle.pmsi_model.specs.Machine.{Machine}
use Rattle.pmsi_model.specs.Phase.{Context, instructions, access_at, touch_list, touch_of, instruction_touches, context_of, phase_touches, phases, phases_touches, touches_by}

pub touches_by-append : (c : ℕ) (ts us : List Touch) → touches_by c (ts ++ us) ≡ touches_by c ts ++ touches_by c us
touches_by-append c ts us = filter-append (λ (touch : Touch). touch.core == c) ts us

-- an access of a core is its own, and of no other core
listed_own : (slot c : ℕ) (access : Option Access) (memory : List ℕ) → touches_by c (touch_list slot c access memory) ≡ touch_list slot c access memory
listed_own slot c None memory = refl
listed_own slot c (Some access) memory = let same : (c == c) ≡ true = grind arith in ap (λ (b : Bool). if b then touch_of slot c access memory ∷ [] else []) same

listed_other : (slot c d : ℕ) (access : Option Access) (memory : List ℕ) → c ≢ d → touches_by d (touch_list slot c access memory) ≡ []
listed_other slot c d None memory other = refl
listed_other slot c d (Some access) memory other = let differs : (c == d) ≡ false = grind arith in ap (λ (b : Bool). if b then touch_of slot c access memory ∷ [] else []) differs

instructions_own : (shape : Geometry) (slot c : ℕ) (text : List ℕ) (count : ℕ) (x : Context)
    → touches_by c (instruction_touches shape slot c text count x) ≡ instruction_touches shape slot c text count x
unfolding instruction_touches
instructions_own shape slot c text zero x = refl
instructions_own shape slot c text (suc count) x = let y : Context = instructions shape slot text count x in
    let before : List Touch = instruction_touches shape slot c text count x in
    let last : List Touch = touch_list slot c (access_at shape text y.core) y.memory in
    touches_by-append c before last
    ∙ ap (λ (ts : List Touch). ts ++ touches_by c last) (instructions_own shape slot c text count x)
    ∙ ap (λ (ts : List Touch). before ++ ts) (listed_own slot c (access_at shape text y.core) y.memory)

instructions_other : (shape : Geometry) (slot c d : ℕ) (text : List ℕ) (count : ℕ) (x : Context) → c ≢ d
    → touches_by d (instruction_touches shape slot c text count x) ≡ []
unfolding instruction_touches
instructions_other shape slot c d text zero x other = refl
instructions_other shape slot c d text (suc count) x other = let y : Context = instructions shape slot text count x in
    let before : List Touch = instruction_touches shape slot c text count x in
    let last : List Touch = touch_list slot c (access_at shape text y.core) y.memory in
    touches_by-append d before last
    ∙ ap (λ (ts : List Touch). ts ++ touches_by d last) (instructions_other shape slot c d text count x other)
    ∙ listed_other slot c d (access_at shape text y.core) y.memory other

-- all accesses of a core's phase are its own
pub touches_own : (job : JobValue) (c : ℕ) (x : Machine) → touches_by c (phase_touches job c x) ≡ phase_touches job c x
unfolding phase_touches
touches_own job c x = instructions_own job.shape x.slot c (text_of job c) job.shape.quantum (context_of x c)

pub touches_other : (job : JobValue) (c d : ℕ) (x : Machine) → c ≢ d → touches_by d (phase_touches job c x) ≡ []
unfolding phase_touches
touches_other job c d x other = instructions_other job.shape x.slot c d (text_of job c) job.shape.quantum (context_of x c) other

-- the phases of the first cores have none of the others
pub touches_above : (job : JobValue) (x : Machine) (count c : ℕ) → count ≤ c → touches_by c (phases_touches job count x) ≡ []
unfolding phases_touches
touches_above job x zero c above = refl
touches_above job x (suc count) c above =
    touches_by-append c (phases_touches job count x) (phase_touches job count (phases job count x))
    ∙ ap (λ (ts : List Touch). ts ++ touches_by c (phase_touches job count (phases job count x))) (touches_above job x count c (omega arith))
    ∙ touches_other job count c (phases job count x) (omega arith)

-- and of each of them those of its phase alone, where its phase after the others' has these
pub touches_apart : (job : JobValue) (x : Machine) (count : ℕ) → ((n : ℕ) → phase_touches job n (phases job n x) ≡ phase_touches job n x)
    → (c : ℕ) → c < count → touches_by c (phases_touches job count x) ≡ phase_touches job c x
unfolding phases_touches
touches_apart job x zero alone c below = absurd (omega arith)
touches_apart job x (suc count) alone c below = let last : List Touch = phase_touches job count (phases job count x) in
    touches_by-append c (phases_touches job count x) (phase_touches job count (phases job count x)) ∙ dite (ℕ_discrete c count)
    (λ same. subst (λ (n : ℕ). touches_by n (phases_touches job count x) ++ touches_by n last ≡ phase_touches job n x) (sym same)
    (ap (λ (ts : List Touch). ts ++ touches_by count last) (touches_above job x count count (omega arith))
    ∙ touches_own job count (phases job count x) ∙ alone count))
    (λ other. ap (λ (ts : List Touch). ts ++ touches_by c last) (touches_apart job x count alone c (omega arith))
    ∙ ap (λ (ts : List Touch). phase_touches job c x ++ ts) (touches_other job count c (phases job count x) (λ (same : count ≡ c). other (sym same)))
    ∙ append-nil (phase_touches job c x))
