-- The first that is there, of a list.
use Rattle.std.proofs.Common.{◌≡◌, ℕ, ◌+◌, ◌<◌, List, [], ◌∷◌, ◌++◌, length, map, drop, get_or, Option, Some, None, refl, add-one, drop-cons}
use Rattle.std.specs.Option.{option_or}
use Rattle.asm_parse.specs.Assembly.{first_of}

pub first_next : {A B : Type 0} (f : A → Option B) (xs : List A) (i : ℕ) (d : A) → i < length xs → f (get_or xs i d) ≡ None → first_of (map f (drop i xs)) ≡ first_of (map f (drop (i + 1) xs))
unfolding first_of
first_next f xs i d lt none = rw add-one (rw (drop-cons xs i d lt) (rw none refl))

pub first_here : {A B : Type 0} (f : A → Option B) (xs : List A) (i : ℕ) (d : A) (b : B) → i < length xs → f (get_or xs i d) ≡ Some b → first_of (map f (drop i xs)) ≡ Some b
unfolding first_of
first_here f xs i d b lt some = rw (drop-cons xs i d lt) (rw some refl)

pub first_append : {A : Type 0} (xs ys : List (Option A)) → first_of (xs ++ ys) ≡ option_or (first_of xs) (first_of ys)
unfolding first_of
first_append [] ys = refl
first_append (None ∷ xs) ys = first_append xs ys
first_append (Some a ∷ xs) ys = refl

pub or_none : {A : Type 0} (x : Option A) → option_or x None ≡ x
or_none None = refl
or_none (Some a) = refl

pub or_three : {A : Type 0} (x y z : Option A) → option_or x (option_or y z) ≡ option_or (option_or x y) z
or_three None y z = refl
or_three (Some a) y z = refl

pub first_or : {A : Type 0} (x : Option A) (xs : List (Option A)) → first_of (x ∷ xs) ≡ option_or x (first_of xs)
unfolding first_of
first_or None xs = refl
first_or (Some a) xs = refl

-- none is there
pub no_first : {A : Type 0} (x : Option A) (xs : List (Option A)) → first_of (x ∷ xs) ≡ None → (x ≡ None) × (first_of xs ≡ None)
unfolding first_of
no_first None xs none = (refl, none)
no_first (Some a) xs none = absurd (cc)

pub both_none : {A : Type 0} (x y : Option A) → option_or x y ≡ None → (x ≡ None) × (y ≡ None)
both_none None y none = (refl, none)
both_none (Some a) y none = absurd (cc)
