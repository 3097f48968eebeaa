-- The list of views, where one of them changes or one is added.
use Rattle.std.proofs.Common.{◌≡◌, ◌≢◌, ◌⊎◌, ℕ, zero, suc, List, [], ◌∷◌, ◌++◌, true, false, length, set, refl, sym, ap, ◌∙◌, subst, inl, inr, ⊎_elim}
use mathlib.Core.Option.{some, some-injective, some-ne-none}
use lib.ListN.{get_elem?}
use Rattle.atomic_table.proofs.Lists.{at_set}
use Rattle.bus_lock.specs.declared.view.View.{View}

-- what holds of each view still does where one of them changes
pub views_stay : (K : ℕ → View → Type 0) (vs : List View) (me : ℕ) (w : View) → K me w → ((j : ℕ) (v : View) → j ≢ me → get_elem? vs j ≡ some v → K j v) →
    (j : ℕ) (v : View) → get_elem? (set vs me w) j ≡ some v → K j v
views_stay K vs me w mine others j v e = ⊎_elim
    (λ (t : (j ≡ me) × (w ≡ v)). subst (λ (x : ℕ × View). K x.0 x.1) (λ i. (sym t.0 i, t.1 i)) mine)
    (λ (t : (j ≢ me) × (get_elem? vs j ≡ some v)). others j v t.0 t.1)
    (at_set vs me j w v e)

pub set_at : {A : Type 0} (l : List A) (i : ℕ) (a b : A) → get_elem? l i ≡ some a → get_elem? (set l i b) i ≡ some b
set_at [] i a b e = absurd (some-ne-none a (sym e))
set_at (x ∷ xs) zero a b e = refl
set_at (x ∷ xs) (suc i) a b e = set_at xs i a b e

-- a view that changes keeps its number and whether it is spent
pub was : (vs : List View) (id : ℕ) (v w : View) → get_elem? vs id ≡ some v → w.number ≡ v.number → w.spent ≡ v.spent →
    (j : ℕ) (x : View) → get_elem? (set vs id w) j ≡ some x → (y : View) × (get_elem? vs j ≡ some y) × (y.number ≡ x.number) × (y.spent ≡ x.spent)
was vs id v w at number spent j x e = views_stay
    (λ j x. (y : View) × (get_elem? vs j ≡ some y) × (y.number ≡ x.number) × (y.spent ≡ x.spent))
    vs id w (v, at, sym number, sym spent) (λ j x _ e. (x, e, refl, refl)) j x e

-- no two seats are of one core
abbrev pub AreApart : List View → Type 0
AreApart vs = (j k : ℕ) (v w : View) → get_elem? vs j ≡ some v → get_elem? vs k ≡ some w → v.spent ≡ false → w.spent ≡ false → v.number ≡ w.number → j ≡ k

pub own_stays : (vs : List View) (id : ℕ) (v w : View) → get_elem? vs id ≡ some v → w.number ≡ v.number → w.spent ≡ v.spent → AreApart vs → AreApart (set vs id w)
own_stays vs id v w at number spent own j k x y e f live_x live_y same =
    let a = was vs id v w at number spent j x e in
    let b = was vs id v w at number spent k y f in
    own j k a.0 b.0 a.1 b.1 (a.3 ∙ live_x) (b.3 ∙ live_y) (a.2 ∙ (same ∙ sym b.2))

-- a seat that holds the lock is another than one that doesn't
pub apart : (vs : List View) (i j : ℕ) (v w : View) → get_elem? vs i ≡ some v → get_elem? vs j ≡ some w → v.holding ≡ false → w.holding ≡ true → j ≢ i
apart vs i j v w at there idle busy e =
    let same : v ≡ w = some-injective v w (sym at ∙ (ap (get_elem? vs) (sym e) ∙ there)) in
    let bad : false ≡ true = sym idle ∙ (ap (λ (x : View). x.holding) same ∙ busy) in
    cc

-- an element of a list with one more is one of before, or the last
pub at_end : {A : Type 0} (l : List A) (a b : A) (j : ℕ) → get_elem? (l ++ a ∷ []) j ≡ some b → (get_elem? l j ≡ some b) ⊎ ((j ≡ length l) × (a ≡ b))
at_end [] a b zero e = inr (refl, some-injective a b e)
at_end [] a b (suc j) e = absurd (some-ne-none b (sym e))
at_end (x ∷ xs) a b zero e = inl e
at_end (x ∷ xs) a b (suc j) e = ⊎_elim (λ h. inl h) (λ h. inr (ap suc h.0, h.1)) (at_end xs a b j e)
