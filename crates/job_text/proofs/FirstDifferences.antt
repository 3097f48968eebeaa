-- The first difference between images, by the bytes that are named first.
use Rattle.std.proofs.Common.{◌≡◌, ◌≢◌, ◌⊎◌, inl, inr, not, eqb, ℕ, zero, suc, ◌+◌, ◌<◌, ◌≤◌, Bool, true, false, List, [], ◌∷◌, length, get_or, Option, Some, None, refl, sym, ◌∙◌, ap, subst, arith}
use Rattle.std.specs.Prelude.{min}
use Rattle.std.specs.Option.{option_eq, option_or}
use Rattle.std.proofs.lemmas.Bool.{cases_eq}
use Rattle.pmsi_model.specs.declared.job.Geometry.{Geometry}
use Rattle.pmsi_model.specs.Image.{ImageValue}
use Rattle.job_text.specs.Joining.{AreWithin, DoDiffer, IsFirstDifference, IsPairUpTo, byte_in, byte_of}
use Rattle.job_text.specs.Joins.{AreFirst, HasOther, IsLeast, IsOther, cell_at, first_byte, lower_of}
use Rattle.job_text.proofs.ImageBytes.{at_core, first_core, first_next, next_core, past_cores}
use Rattle.job_text.proofs.NamedCells.{other_cell, same_cell}
use Rattle.job_text.proofs.PieceBytes.{below_or}

-- ---- the lower of two

module _ {P Q R : ℕ → Type 0} (from : (n : ℕ) → R n → P n ⊎ Q n) (one : (n : ℕ) → P n → R n) (two : (n : ℕ) → Q n → R n) where
  neither : (n : ℕ) → (P n → ⊥) → (Q n → ⊥) → P n ⊎ Q n → ⊥
  neither n p q (inl is) = p is
  neither n p q (inr is) = q is

  up_to : (k n : ℕ) → (P n → k ≤ n) → (Q n → k ≤ n) → P n ⊎ Q n → k ≤ n
  up_to k n p q (inl is) = p is
  up_to k n p q (inr is) = q is

  least_by : (a b : ℕ) → (a < b) ⊎ (b ≤ a) → P a → Q b → R (min a b)
  least_by a b (inl low) p q = subst R (omega arith) (one a p)
  least_by a b (inr low) p q = subst R (omega arith) (two b q)

  pub lower_least : (a b : Option ℕ) → IsLeast P a → IsLeast Q b → IsLeast R (lower_of a b)
  lower_least None None p q = λ n r. neither n (p n) (q n) (from n r)
  lower_least None (Some b) p q = (two b q.0, λ n r. up_to b n (λ is. absurd (p n is)) (q.1 n) (from n r))
  lower_least (Some a) None p q = (one a p.0, λ n r. up_to a n (p.1 n) (λ is. absurd (q n is)) (from n r))
  lower_least (Some a) (Some b) p q = (
    least_by a b (below_or a b) p.0 q.0,
    λ n r. up_to (min a b) n (λ is. let low = p.1 n is in omega (arith, low)) (λ is. let low = q.1 n is in omega (arith, low)) (from n r),
  )

-- ---- an address at which some image has another byte than the cell

-- one of the images below a number
pub record HasOtherTo (images : List ImageValue) (cells : List (Option ℕ)) (end address : ℕ) : Type 0 where
  pub core : ℕ
  pub below : core < end
  pub other : IsOther (byte_of images core address) (cell_at cells address)

module _ (images : List ImageValue) (cells : List (Option ℕ)) (i : ℕ) (image : ImageValue) (low : i < length images) (at : image ≡ get_or images i image) where
  here_other : (address : ℕ) → IsOther (byte_in image.pieces address) (cell_at cells address) → HasOtherTo images cells (i + 1) address
  here_other address other = record { core = i; below = omega arith; other = subst (λ byte. IsOther byte (cell_at cells address)) (sym (at_core images i address image low at)) other }

  later_other : (address : ℕ) → HasOtherTo images cells i address → HasOtherTo images cells (i + 1) address
  later_other address has = record { core = has.core; below = omega (arith, has.below); other = has.other }

  split_by : (address : ℕ) (has : HasOtherTo images cells (i + 1) address) → (has.core ≡ i) ⊎ (has.core ≢ i) → HasOtherTo images cells i address ⊎ IsOther (byte_in image.pieces address) (cell_at cells address)
  split_by address has (inl here) =
      inr (subst (λ byte. IsOther byte (cell_at cells address)) (ap (λ core. byte_of images core address) here ∙ at_core images i address image low at) has.other)
  split_by address has (inr not) = inl (record { core = has.core; below = omega (arith, has.below); other = has.other })

  pub least_next : (least found : Option ℕ) → IsLeast (HasOtherTo images cells i) least → IsLeast (λ address. IsOther (byte_in image.pieces address) (cell_at cells address)) found
      → IsLeast (HasOtherTo images cells (i + 1)) (lower_of least found)
  least_next least found one two = lower_least (λ address has. split_by address has (cases_eq has.core i)) later_other here_other least found one two

pub least_none : (images : List ImageValue) (cells : List (Option ℕ)) → IsLeast (HasOtherTo images cells 0) None
least_none images cells = λ address has. omega (arith, has.below)

module _ (images : List ImageValue) (cells : List (Option ℕ)) (i : ℕ) (high : length images ≤ i) where
  all_by : (address : ℕ) (has : HasOther images cells address) → (has.core < i) ⊎ (i ≤ has.core) → HasOtherTo images cells i address
  all_by address has (inl low) = record { core = has.core; below = low; other = has.other }
  all_by address has (inr far) = absurd (has.other.0 (past_cores images has.core address (omega arith)))

  all_of : (address : ℕ) → HasOther images cells address → HasOtherTo images cells i address
  all_of address has = all_by address has (below_or has.core i)

  pub least_all : (least : Option ℕ) → IsLeast (HasOtherTo images cells i) least → IsLeast (HasOther images cells) least
  least_all None none = λ address has. none address (all_of address has)
  least_all (Some n) one = (record { core = one.0.core; other = one.0.other }, λ address has. one.1 address (all_of address has))

-- ---- the first core with another byte

module _ (images : List ImageValue) (address : ℕ) (cell : Option ℕ) (i : ℕ) where
  abbrev pub NoneTo : Type 0
  NoneTo = (core : ℕ) → core < i → IsOther (byte_of images core address) cell → ⊥

  module _ (image : ImageValue) (low : i < length images) (at : image ≡ get_or images i image) (before : NoneTo) where
    core_by : (IsOther (byte_in image.pieces address) cell → ⊥) → (core : ℕ) → core < i + 1 → (core ≡ i) ⊎ (core ≢ i) → IsOther (byte_of images core address) cell → ⊥
    core_by none core below (inl here) other =
        none (subst (λ byte. IsOther byte cell) (ap (λ core. byte_of images core address) here ∙ at_core images i address image low at) other)
    core_by none core below (inr not) other = before core (omega arith) other

    pub none_next : (IsOther (byte_in image.pieces address) cell → ⊥) → (core : ℕ) → core < i + 1 → IsOther (byte_of images core address) cell → ⊥
    none_next none core below = core_by none core below (cases_eq core i)

    from_by : (core : ℕ) → IsOther (byte_of images core address) cell → (core < i) ⊎ (i ≤ core) → i ≤ core
    from_by core other (inl below) = absurd (before core below other)
    from_by core other (inr from) = from

    pub core_here : IsOther (byte_in image.pieces address) cell → IsLeast (λ core. IsOther (byte_of images core address) cell) (Some i)
    core_here other = (subst (λ byte. IsOther byte cell) (sym (at_core images i address image low at)) other, λ core is. from_by core is (below_or core i))

  pub core_none : length images ≤ i → NoneTo → IsLeast (λ core. IsOther (byte_of images core address) cell) None
  core_none high before = λ core other. none_by core other (below_or core i) where
    none_by : (core : ℕ) → IsOther (byte_of images core address) cell → (core < i) ⊎ (i ≤ core) → ⊥
    none_by core other (inl below) = before core below other
    none_by core other (inr from) = other.0 (past_cores images core address (omega arith))

-- ---- the byte that is named first

or_some : (a b : Option ℕ) → a ≢ None → option_or a b ≡ a
or_some None b some = absurd (some refl)
or_some (Some x) b some = refl

or_else : (a b : Option ℕ) → a ≡ None → option_or a b ≡ b
or_else a b e = rw e refl

-- the byte of the first core that names one
pub first_is : (images : List ImageValue) (core address : ℕ) → byte_of images core address ≢ None → ((other : ℕ) → byte_of images other address ≢ None → core ≤ other) → first_byte images address ≡ byte_of images core address
first_is [] core address some least = absurd (some (past_cores [] core address (omega arith)))
first_is (first ∷ images) zero address some least =
    let byte = first_core first images address in
    first_next first images address ∙ or_some (byte_in first.pieces address) (first_byte images address) (λ none. some (byte ∙ none)) ∙ sym byte
first_is (first ∷ images) (suc core) address some least =
    let same = next_core first images core address in
    first_next first images address
    ∙ or_else (byte_in first.pieces address) (first_byte images address) (is_none (byte_in first.pieces address) refl)
    ∙ first_is images core address (λ none. some (same ∙ none)) (λ other is. let low = least (suc other) (λ none. is (sym (next_core first images other address) ∙ none)) in omega (arith, low)) ∙ sym same where
      is_none : (byte : Option ℕ) → byte_in first.pieces address ≡ byte → byte_in first.pieces address ≡ None
      is_none None e = e
      is_none (Some b) e = let low = least 0 (λ none. let both : Some b ≡ None = sym e ∙ sym (first_core first images address) ∙ none in absurd cc) in absurd (omega (arith, low))

-- ---- the first difference

same_by : (a b : Option ℕ) (test : Bool) → not (option_eq eqb a b) ≡ test → (a ≡ b) ⊎ (a ≢ b)
same_by a b true e = inr (other_cell a b e)
same_by a b false e = inl (same_cell a b e)

pub same_or : (a b : Option ℕ) → (a ≡ b) ⊎ (a ≢ b)
same_or a b = same_by a b (not (option_eq eqb a b)) refl

module _ (shape : Geometry) (images : List ImageValue) (cells : List (Option ℕ)) (within : AreWithin shape images) (first : AreFirst images shape.memory cells) where
  inside_by : (core address : ℕ) → byte_of images core address ≢ None → (address < shape.memory) ⊎ (shape.memory ≤ address) → address < shape.memory
  inside_by core address some (inl low) = low
  inside_by core address some (inr past) = absurd (within core address (record { byte = some; past = past }))

  pub in_memory : (core address : ℕ) → byte_of images core address ≢ None → address < shape.memory
  in_memory core address some = inside_by core address some (below_or address shape.memory)

  other_by : (core other address : ℕ) → DoDiffer images core other address → (byte_of images core address ≡ cell_at cells address) ⊎ (byte_of images core address ≢ cell_at cells address) → HasOther images cells address
  other_by core other address differ (inl same) = record { core = other; other = (differ.two, λ also. differ.apart (same ∙ sym also)) }
  other_by core other address differ (inr apart) = record { core = core; other = (differ.one, apart) }

  pub has_other : (core other address : ℕ) → DoDiffer images core other address → HasOther images cells address
  has_other core other address differ = other_by core other address differ (same_or (byte_of images core address) (cell_at cells address))

  module _ (address core other : ℕ) (least : IsLeast (HasOther images cells) (Some address)) (one : IsLeast (λ core. IsOther (byte_of images core address) None) (Some core))
      (two : IsLeast (λ core. IsOther (byte_of images core address) (cell_at cells address)) (Some other)) where
    cell_is : cell_at cells address ≡ byte_of images core address
    cell_is = first.each address (in_memory core address one.0.0) ∙ first_is images core address one.0.0 (λ c some. one.1 c (some, some))

    order_by : (core ≡ other) ⊎ (core ≢ other) → core ≤ other → core < other
    order_by (inl same) low = absurd (two.0.1 (ap (λ c. byte_of images c address) (sym same) ∙ sym cell_is))
    order_by (inr not) low = omega arith

    pair_by : (c d : ℕ) → DoDiffer images c d address → core ≤ c → (core ≡ c) ⊎ (core ≢ c) → IsPairUpTo (core, other) (c, d)
    pair_by c d differ low (inl same) =
        inr (same, two.1 d (differ.two, λ also. differ.apart (ap (λ k. byte_of images k address) (sym same) ∙ sym cell_is ∙ sym also)))
    pair_by c d differ low (inr not) = inl (omega arith)

    pub first_difference : IsFirstDifference images core other address
    first_difference = record {
      is = record {
        order = order_by (cases_eq core other) (one.1 other (two.0.0, two.0.0));
        one = one.0.0;
        two = two.0.0;
        apart = λ same. two.0.1 (sym same ∙ sym cell_is);
      };
      least = λ c d place differ. least.1 place (has_other c d place differ);
      first = λ c d differ. pair_by c d differ (one.1 c (differ.one, differ.one)) (cases_eq core c);
    }
