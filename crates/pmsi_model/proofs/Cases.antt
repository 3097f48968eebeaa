-- Cases that definitions of the machine leave open.
use Rattle.std.proofs.Common.{◌≡◌, ◌≢◌, ℕ, Bool, true, false, ◌==◌, if◌then◌else◌, refl, subst, arith, Option, Some, None}
use Rattle.pmsi_model.specs.Machine.{CoreState}
use Rattle.pmsi_model.specs.Phase.{can_run}

-- one of two, by a test
pub by_test : {A : Type 0} (P : A → Type 0) (b : Bool) (t e : A) → (b ≡ true → P t) → (b ≡ false → P e) → P (if b then t else e)
by_test P true t e on_true on_false = on_true refl
by_test P false t e on_true on_false = on_false refl

-- a test is true or false
pub by_bool : {P : Type 0} (b : Bool) → (b ≡ true → P) → (b ≡ false → P) → P
by_bool true on_true on_false = on_true refl
by_bool false on_true on_false = on_false refl

-- ---- one core becomes another

-- what holds of the new core, and of the others as they were, holds of all
pub at_core : (P : ℕ → CoreState → Type 0) (c : ℕ) (k : CoreState) (f : ℕ → CoreState) → P c k → ((d : ℕ) → d ≢ c → P d (f d)) → (d : ℕ)
    → P d (if d == c then k else f d)
at_core P c k f own others d = by_test (P d) (d == c) k (f d)
    (λ same. let e : c ≡ d = grind arith in subst (λ n. P n k) e own)
    (λ other. others d (λ same. grind arith))

pub own_core : (c : ℕ) (k : CoreState) (f : ℕ → CoreState) → (if c == c then k else f c) ≡ k
own_core c k f = at_core (λ d j. d ≡ c → j ≡ k) c k f (λ same. refl) (λ d other same. absurd (other same)) c refl

pub other_core : (c : ℕ) (k : CoreState) (f : ℕ → CoreState) (d : ℕ) → d ≢ c → (if d == c then k else f d) ≡ f d
other_core c k f = at_core (λ d j. d ≢ c → j ≡ f d) c k f (λ other. absurd (other refl)) (λ d other same. refl)

-- ---- what a core waits for

-- what is never some number is none
pub none_by : (o : Option ℕ) → ((n : ℕ) → o ≢ Some n) → o ≡ None
none_by None never = refl
none_by (Some n) never = absurd (never n refl)

-- a core that runs wants nothing
pub runs_wantless : (k : CoreState) → can_run k ≡ true → k.want ≡ None
runs_wantless k can = grind arith
