-- The lines of slots, one after another.
use Rattle.std.proofs.Common.{◌≡◌, ℕ, ◌<◌, List, [], ◌∷◌, ◌++◌, length, Some, None, Ok, Err, refl, ap, arith}
use Rattle.pmsi_model.specs.declared.Action.{Action}
use Rattle.pmsi_model.specs.Slots.{plain_plan}
use Rattle.trace_text.specs.declared.fault.TraceFault.{TraceFault}
use Rattle.trace_text.specs.declared.fault.TraceFault.TheVariants.{End}
use Rattle.trace_text.specs.declared.row.Row.TheVariants as row
use Rattle.trace_text.specs.Reading.{ended, fields_of, first_line, row_in, rows_in}

-- ---- one line

same_option : {A : Type 0} (a b : A) → Some a ≡ Some b → a ≡ b
same_option a b e = cc

found : (first next line : List ℕ) (more rest : List (List ℕ)) → first_line (first ∷ next ∷ more) ≡ Some (line, rest) → (first ≡ line) × (next ∷ more ≡ rest)
found first next line more rest is =
    let same = same_option {A = List ℕ × List (List ℕ)} (first, next ∷ more) (line, rest) is in (ap (λ x. x.0) same, ap (λ x. x.1) same)

pub goes_on : (cores : ℕ) (actions : List Action) (action : Action) (parts : List (List ℕ)) (line : List ℕ) (rest : List (List ℕ)) → first_line parts ≡ Some (line, rest)
    → Ok (row.Slot action) ≡ row_in (plain_plan cores) (length actions) (fields_of line) → rows_in cores actions parts ≡ rows_in cores (actions ++ action ∷ []) rest
unfolding rows_in
goes_on cores actions action [] line rest is read = absurd cc
goes_on cores actions action (last ∷ []) line rest is read = absurd cc
goes_on cores actions action (first ∷ next ∷ more) line rest is read = let same = found first next line more rest is in rw (same.0, ← read) (ap (λ after. rows_in cores (actions ++ action ∷ []) after) same.1)

pub ends : (cores : ℕ) (actions : List Action) (parts : List (List ℕ)) (line : List ℕ) (rest : List (List ℕ)) → first_line parts ≡ Some (line, rest)
    → Ok row.End ≡ row_in (plain_plan cores) (length actions) (fields_of line) → rows_in cores actions parts ≡ ended (record { cores = cores; actions = actions }) rest
unfolding rows_in
ends cores actions [] line rest is read = absurd cc
ends cores actions (last ∷ []) line rest is read = absurd cc
ends cores actions (first ∷ next ∷ more) line rest is read = let same = found first next line more rest is in rw (same.0, ← read) (ap (λ after. ended (record { cores = cores; actions = actions }) after) same.1)

pub refuses : (cores : ℕ) (actions : List Action) (fault : TraceFault) (parts : List (List ℕ)) (line : List ℕ) (rest : List (List ℕ)) → first_line parts ≡ Some (line, rest)
    → Err fault ≡ row_in (plain_plan cores) (length actions) (fields_of line) → rows_in cores actions parts ≡ Err fault
unfolding rows_in
refuses cores actions fault [] line rest is read = absurd cc
refuses cores actions fault (last ∷ []) line rest is read = absurd cc
refuses cores actions fault (first ∷ next ∷ more) line rest is read = let same = found first next line more rest is in rw (same.0, ← read) refl

pub runs_out : (cores : ℕ) (actions : List Action) (parts : List (List ℕ)) → first_line parts ≡ None → rows_in cores actions parts ≡ Err End
unfolding rows_in
runs_out cores actions [] is = refl
runs_out cores actions (last ∷ []) is = refl
runs_out cores actions (first ∷ next ∷ more) is = absurd cc

pub shorter : (parts : List (List ℕ)) (line : List ℕ) (rest : List (List ℕ)) → first_line parts ≡ Some (line, rest) → length rest < length parts
shorter [] line rest is = absurd cc
shorter (last ∷ []) line rest is = absurd cc
shorter (first ∷ next ∷ more) line rest is = let same = found first next line more rest is in omega (arith, ap length same.1)
