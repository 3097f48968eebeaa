-- Who owns a line.
use Rattle.std.proofs.Common.{◌≡◌, ◌≢◌, ℕ, zero, suc, ◌<◌, Option, Some, None, is_none, Bool, true, false, not, ◌&&◌, if◌then◌else◌, refl, ap, ◌∙◌, sym, subst, arith}
use mathlib.Core.Logic.{dite}
use native.Mathlib.Decide.{ℕ_discrete}
use Rattle.pmsi_model.specs.declared.Mode.{Mode}
use Rattle.pmsi_model.specs.declared.Mode.TheVariants.{Shared, Modified}
use Rattle.pmsi_model.specs.Machine.{Machine, mode_in, owns, is_modified, nobody_owns, owner_of, or_else}

modified : (mode : Option Mode) → is_modified mode ≡ true → mode ≡ Some Modified
modified None is = absurd (grind arith)
modified (Some Shared) is = absurd (grind arith)
modified (Some Modified) is = refl

pub unmodified : (mode : Option Mode) → mode ≢ Some Modified → is_modified mode ≡ false
unmodified None other = refl
unmodified (Some Shared) other = refl
unmodified (Some Modified) other = absurd (other refl)

pub owns_mode : (x : Machine) (c line : ℕ) → owns x c line ≡ true → mode_in x c line ≡ Some Modified
owns_mode x c line is = modified (mode_in x c line) is

pub mode_owns : (x : Machine) (c line : ℕ) → mode_in x c line ≡ Some Modified → owns x c line ≡ true
mode_owns x c line is = ap is_modified is

-- nobody owns a line that has no owner
pub owner_none : (x : Machine) (count line : ℕ) → owner_of x count line ≡ None → nobody_owns x count line ≡ true
owner_none x count line none = ap is_none none

pub none_is : (o : Option ℕ) → is_none o ≡ true → o ≡ None
none_is None is = refl
none_is (Some n) is = absurd (grind arith)

pub nobody_none : (x : Machine) (count line : ℕ) → nobody_owns x count line ≡ true → owner_of x count line ≡ None
nobody_none x count line nobody = none_is (owner_of x count line) nobody

none_of : (o : Option ℕ) (b : Bool) (n : ℕ) → is_none (or_else o (if b then Some n else None)) ≡ (is_none o && not b)
none_of None true n = refl
none_of None false n = refl
none_of (Some m) b n = refl

-- none of the first cores, and the next
nobody_more : (x : Machine) (count line : ℕ) → nobody_owns x (suc count) line ≡ (nobody_owns x count line && not (owns x count line))
nobody_more x count line = none_of (owner_of x count line) (owns x count line) count

-- two machines in which the same cores own a line have one owner of it
pub owner_same : (x y : Machine) (count line : ℕ) → ((d : ℕ) → d < count → owns x d line ≡ owns y d line) → owner_of x count line ≡ owner_of y count line
owner_same x y zero line same = refl
owner_same x y (suc count) line same =
    let before : owner_of x count line ≡ owner_of y count line = owner_same x y count line (λ d below. same d (omega arith)) in
    let last : owns x count line ≡ owns y count line = same count (omega arith) in grind arith

-- where nobody owns a line none of the cores holds it modified
pub nobody_below : (x : Machine) (count line : ℕ) → nobody_owns x count line ≡ true → (d : ℕ) → d < count → mode_in x d line ≢ Some Modified
nobody_below x zero line nobody d below owned = absurd (omega arith)
nobody_below x (suc count) line nobody d below owned = dite (ℕ_discrete d count)
    (λ last. let here : owns x count line ≡ true = mode_owns x count line (subst (λ (n : ℕ). mode_in x n line ≡ Some Modified) last owned) in
    let both : (nobody_owns x count line && not (owns x count line)) ≡ true = sym (nobody_more x count line) ∙ nobody in grind arith)
    (λ other. let both : (nobody_owns x count line && not (owns x count line)) ≡ true = sym (nobody_more x count line) ∙ nobody in
    nobody_below x count line (grind arith) d (omega arith) owned)

pub nobody_from : (x : Machine) (count line : ℕ) → ((d : ℕ) → d < count → mode_in x d line ≢ Some Modified)
    → nobody_owns x count line ≡ true
nobody_from x zero line none = refl
nobody_from x (suc count) line none =
    let before : nobody_owns x count line ≡ true = nobody_from x count line (λ d below. none d (omega arith)) in
    let last : mode_in x count line ≢ Some Modified = none count (omega arith) in
    let free : owns x count line ≡ false = unmodified (mode_in x count line) last in nobody_more x count line ∙ grind arith

-- the owner is one of the cores, and owns the line
pub owner_below : (x : Machine) (count line d : ℕ) → owner_of x count line ≡ Some d → d < count
owner_below x zero line d is = absurd (grind arith)
owner_below x (suc count) line d is = grind (arith, owner_below x count line d)

mode_last : (x : Machine) (count line d : ℕ) (b : Bool) → owns x count line ≡ b → (if b then Some count else None) ≡ Some d
    → mode_in x d line ≡ Some Modified
mode_last x count line d true owned is = let e : count ≡ d = grind arith in subst (λ (n : ℕ). mode_in x n line ≡ Some Modified) e (owns_mode x count line owned)
mode_last x count line d false owned is = absurd (grind arith)

mode_first : (x : Machine) (count line d : ℕ) (o : Option ℕ) → (o ≡ Some d → mode_in x d line ≡ Some Modified)
    → or_else o (if owns x count line then Some count else None) ≡ Some d → mode_in x d line ≡ Some Modified
mode_first x count line d None before is = mode_last x count line d (owns x count line) refl is
mode_first x count line d (Some n) before is = before is

pub owner_mode : (x : Machine) (count line d : ℕ) → owner_of x count line ≡ Some d → mode_in x d line ≡ Some Modified
owner_mode x zero line d is = absurd (grind arith)
owner_mode x (suc count) line d is = mode_first x count line d (owner_of x count line) (owner_mode x count line d) is

alone_case : (x : Machine) (count line c : ℕ) → c < count → mode_in x c line ≡ Some Modified
    → ((d : ℕ) → d < count → d ≢ c → mode_in x d line ≢ Some Modified) → (o : Option ℕ) → owner_of x count line ≡ o → o ≡ Some c
alone_case x count line c below owned alone None is = absurd (nobody_below x count line (owner_none x count line is) c below owned)
alone_case x count line c below owned alone (Some d) is = dite (ℕ_discrete d c) (λ same. ap (λ (n : ℕ). Some n) same)
    (λ other. absurd (alone d (owner_below x count line d is) other (owner_mode x count line d is)))

-- a core that owns a line, which no other of the cores owns, is its owner
pub owner_alone : (x : Machine) (count line c : ℕ) → c < count → mode_in x c line ≡ Some Modified
    → ((d : ℕ) → d < count → d ≢ c → mode_in x d line ≢ Some Modified) → owner_of x count line ≡ Some c
owner_alone x count line c below owned alone = alone_case x count line c below owned alone (owner_of x count line) refl
