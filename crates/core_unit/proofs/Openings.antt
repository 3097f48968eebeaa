-- The cores as they are opened, one after the other.
use Rattle.std.proofs.Common.{◌≡◌, ℕ, ◌+◌, ◌<◌, ◌≤◌, List, [], ◌∷◌, ◌++◌, Bool, length, get_or, refl, sym, subst, arith, ◌∙◌}
use Rattle.std.proofs.lemmas.List.{get_or_append_left, get_or-append_right}
use mathlib.Core.Logic.{dite}
use native.Mathlib.Decide.{ℕ_discrete}
use Rattle.pmsi_model.specs.declared.Keep.{Keep}
use Rattle.pmsi_model.specs.Job.{JobValue, IsJob}
use Rattle.core_unit.specs.declared.state.State.{State}
use Rattle.core_unit.specs.Parts.{IsPart}
use Rattle.core_unit.specs.Opened.{AreOpened}

-- a core is open, and keeps what it is told to
pub record IsOpen (job : JobValue) (touches : Bool) (c : ℕ) (v : State) : Type 0 where
  pub part : IsPart job 0 c v
  pub keeps : v.keeps ≡ touches

-- the first so many are
abbrev pub AreOpen : JobValue → Bool → ℕ → List State → Type 0
AreOpen job touches count cores = (c : ℕ) (other : State) → c < count → IsOpen job touches c (get_or cores c other)

last_here : (cores : List State) (k other : State) → get_or (cores ++ k ∷ []) (length cores) other ≡ k
last_here cores k other = get_or-append_right cores (k ∷ []) (length cores) (length cores) other refl (omega arith) ∙ grind arith

pub open_more : (job : JobValue) (touches : Bool) (count : ℕ) (cores more : List State) (k : State) → length cores ≡ count → more ≡ cores ++ k ∷ [] →
    AreOpen job touches count cores → IsOpen job touches count k → AreOpen job touches (count + 1) more
open_more job touches count cores more k size is ready here c other below =
    let last : get_or more count other ≡ k =
    subst (λ l. get_or l count other ≡ k) (sym is) (subst (λ n. get_or (cores ++ k ∷ []) n other ≡ k) size (last_here cores k other)) in
    dite (ℕ_discrete c count)
    (λ same. subst (λ n. IsOpen job touches n (get_or more n other)) (sym same) (subst (IsOpen job touches count) (sym last) here))
    (λ before. subst (λ l. IsOpen job touches c (get_or l c other)) (sym is)
    (subst (IsOpen job touches c) (sym (get_or_append_left cores (k ∷ []) other c (omega arith))) (ready c other (omega arith))))

pub opened : (job : JobValue) (keep : Keep) (count cores : ℕ) (items : List State) → IsJob job → length items ≡ count → cores ≡ job.shape.cores →
    count ≤ cores → cores ≤ count → AreOpen job keep.touches count items → AreOpened job keep items
opened job keep count cores items is size all most least ready = record {
  within = is;
  all = omega arith;
  part = λ c other below. (ready c other (omega arith)).part;
  keeps = λ c other below. (ready c other (omega arith)).keeps;
}
