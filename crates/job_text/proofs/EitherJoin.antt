-- Images have a job or a fault.
use Rattle.std.proofs.Common.{◌≡◌, ◌≢◌, ◌⊎◌, inl, inr, ℕ, zero, suc, ◌+◌, ◌<◌, ◌≤◌, List, [], ◌∷◌, map, length, Option, Some, None, refl, sym, ◌∙◌, arith}
use Rattle.std.specs.List.{range_with_len}
use Rattle.std.specs.Option.{unwrap_or}
use Rattle.std.proofs.lemmas.Bool.{cases_eq}
use Rattle.std.proofs.lemmas.List.{length-map}
use Rattle.std.proofs.lemmas.List.FromFn.{get_or-map-range_with_len, length-range_with_len}
use Rattle.pmsi_model.specs.declared.image.Piece.{Piece}
use Rattle.pmsi_model.specs.declared.job.Geometry.{Geometry}
use Rattle.pmsi_model.specs.Image.{ImageValue, end_of}
use Rattle.pmsi_model.specs.Job.{JobValue}
use Rattle.job_text.specs.declared.job_fault.JobFault.{JobFault}
use Rattle.job_text.specs.declared.job_fault.JobFault.TheVariants as faults
use Rattle.job_text.specs.Joining.{AreWithin, DoDiffer, HasJoinFault, IsFirstDifference, IsFirstPast, IsJoined, IsPairUpTo, IsPast, byte_in, byte_of}
use Rattle.job_text.specs.Joins.{AreFirst, first_byte}
use Rattle.job_text.specs.Laws.{JobOrFault}
use Rattle.job_text.proofs.FirstDifferences.{same_or}
use Rattle.job_text.proofs.ImageBytes.{first_core, next_core, past_cores}
use Rattle.job_text.proofs.OneJoin.{is_joined}
use Rattle.job_text.proofs.PieceBytes.{below_or, empty, outside}

-- ---- the least number that fits, below a bound

abbrev HasLeast : (ℕ → Type 0) → Type 0
HasLeast Fits = (n : ℕ) × (Fits n) × ((m : ℕ) → Fits m → n ≤ m)

module _ (Fits : ℕ → Type 0) (decide : (n : ℕ) → Fits n ⊎ (Fits n → ⊥)) where
  up_by : (end m : ℕ) → ((n : ℕ) → n < end → Fits n → ⊥) → Fits m → (m < end) ⊎ (end ≤ m) → end ≤ m
  up_by end m none fits (inl low) = absurd (none m low fits)
  up_by end m none fits (inr from) = from

  none_by : (end n : ℕ) → ((n : ℕ) → n < end → Fits n → ⊥) → (Fits end → ⊥) → n < suc end → Fits n → (n ≡ end) ⊎ (n ≢ end) → ⊥
  none_by end n none here low fits (inl same) = here (subst_fits n end same fits) where
    subst_fits : (a b : ℕ) → a ≡ b → Fits a → Fits b
    subst_fits a b e fits = rw (sym e) fits
  none_by end n none here low fits (inr not) = none n (omega arith) fits

  search_by : (end : ℕ) → HasLeast Fits ⊎ ((n : ℕ) → n < end → Fits n → ⊥) → Fits end ⊎ (Fits end → ⊥) → HasLeast Fits ⊎ ((n : ℕ) → n < suc end → Fits n → ⊥)
  search_by end (inl found) here = inl found
  search_by end (inr none) (inl fits) = inl (end, fits, λ m is. up_by end m none is (below_or m end))
  search_by end (inr none) (inr not) = inr (λ n low fits. none_by end n none not low fits (cases_eq n end))

  search_below : (end : ℕ) → HasLeast Fits ⊎ ((n : ℕ) → n < end → Fits n → ⊥)
  search_below zero = inr (λ n low fits. omega arith)
  search_below (suc end) = search_by end (search_below end) (decide end)

  all_by : (end : ℕ) → ((n : ℕ) → Fits n → n < end) → HasLeast Fits ⊎ ((n : ℕ) → n < end → Fits n → ⊥) → HasLeast Fits ⊎ ((n : ℕ) → Fits n → ⊥)
  all_by end bound (inl found) = inl found
  all_by end bound (inr none) = inr (λ n fits. none n (bound n fits) fits)

  least_or : (end : ℕ) → ((n : ℕ) → Fits n → n < end) → HasLeast Fits ⊎ ((n : ℕ) → Fits n → ⊥)
  least_or end bound = all_by end bound (search_below end)

-- some number fits, or none
some_or : {Fits : ℕ → Type 0} → HasLeast Fits ⊎ ((n : ℕ) → Fits n → ⊥) → ((n : ℕ) × Fits n) ⊎ (((n : ℕ) × Fits n) → ⊥)
some_or (inl found) = inl (found.0, found.1)
some_or (inr none) = inr (λ some. none some.0 some.1)

-- ---- bounds

top_in : List Piece → ℕ
top_in [] = 0
top_in (piece ∷ pieces) = end_of piece + top_in pieces

below_by : (piece : Piece) (pieces : List Piece) (address : ℕ) → byte_in (piece ∷ pieces) address ≢ None → (byte_in pieces address ≢ None → address < top_in pieces) → (address < end_of piece) ⊎ (end_of piece ≤ address)
    → address < top_in (piece ∷ pieces)
unfolding top_in
below_by piece pieces address some others (inl low) = omega arith
below_by piece pieces address some others (inr high) = let low = others (λ none. some (outside piece pieces address (inr high) ∙ none)) in omega (arith, low)

below_in : (pieces : List Piece) (address : ℕ) → byte_in pieces address ≢ None → address < top_in pieces
below_in [] address some = absurd (some (empty address))
below_in (piece ∷ pieces) address some = below_by piece pieces address some (below_in pieces address) (below_or address (end_of piece))

top : List ImageValue → ℕ
top [] = 0
top (image ∷ images) = top_in image.pieces + top images

below_top : (images : List ImageValue) (core address : ℕ) → byte_of images core address ≢ None → address < top images
unfolding top
below_top [] core address some = absurd (some (past_cores [] core address (omega arith)))
below_top (image ∷ images) zero address some = let low = below_in image.pieces address (λ none. some (first_core image images address ∙ none)) in omega (arith, low)
below_top (image ∷ images) (suc core) address some = let low = below_top images core address (λ none. some (next_core image images core address ∙ none)) in omega (arith, low)

core_by : (images : List ImageValue) (core address : ℕ) → byte_of images core address ≢ None → (core < length images) ⊎ (length images ≤ core) → core < length images
core_by images core address some (inl low) = low
core_by images core address some (inr high) = absurd (some (past_cores images core address high))

below_count : (images : List ImageValue) (core address : ℕ) → byte_of images core address ≢ None → core < length images
below_count images core address some = core_by images core address some (below_or core (length images))

named_or : (byte : Option ℕ) → (byte ≢ None) ⊎ ((byte ≢ None) → ⊥)
named_or None = inr (λ some. some refl)
named_or (Some b) = inl (λ e. cc)

-- ---- bytes past the memory

module _ (shape : Geometry) (images : List ImageValue) where
  past_by : (core address : ℕ) → (byte_of images core address ≢ None) ⊎ ((byte_of images core address ≢ None) → ⊥) → (address < shape.memory) ⊎ (shape.memory ≤ address)
      → IsPast shape images core address ⊎ (IsPast shape images core address → ⊥)
  past_by core address (inl some) (inr past) = inl (record { byte = some; past = past })
  past_by core address (inl some) (inl low) = inr (λ is. omega (arith, is.past))
  past_by core address (inr none) past = inr (λ is. none is.byte)

  past_at : (core : ℕ) → HasLeast (IsPast shape images core) ⊎ ((address : ℕ) → IsPast shape images core address → ⊥)
  past_at core = least_or (IsPast shape images core) (λ address. past_by core address (named_or (byte_of images core address)) (below_or address shape.memory)) (top images)
      (λ address is. below_top images core address is.byte)

  abbrev HasPast : ℕ → Type 0
  HasPast core = (address : ℕ) × IsPast shape images core address

  past_core : HasLeast HasPast ⊎ ((core : ℕ) → HasPast core → ⊥)
  past_core = least_or HasPast (λ core. some_or (past_at core)) (length images) (λ core has. below_count images core has.0 has.1.byte)

  pair_by : (core address other place : ℕ) → core ≤ other → ((m : ℕ) → IsPast shape images core m → address ≤ m) → IsPast shape images other place → (core ≡ other) ⊎ (core ≢ other) → IsPairUpTo (core, address) (other, place)
  pair_by core address other place low least is (inl same) = inr (same, least place (rw same is))
  pair_by core address other place low least is (inr not) = inl (omega arith)

  first_past : (core : ℕ) → ((m : ℕ) → HasPast m → core ≤ m) → HasLeast (IsPast shape images core) → (address : ℕ) × IsFirstPast shape images core address
  first_past core least found = (
    found.0,
    record {
      is = found.1;
      first = λ other place is. pair_by core found.0 other place (least other (place, is)) found.2 is (cases_eq core other);
    },
  )

-- ---- differences

module _ (images : List ImageValue) where
  differ_by : (c d address : ℕ) → (c < d) ⊎ (d ≤ c) → (byte_of images c address ≢ None) ⊎ ((byte_of images c address ≢ None) → ⊥) → (byte_of images d address ≢ None) ⊎ ((byte_of images d address ≢ None) → ⊥)
      → (byte_of images c address ≡ byte_of images d address) ⊎ (byte_of images c address ≢ byte_of images d address) → DoDiffer images c d address ⊎ (DoDiffer images c d address → ⊥)
  differ_by c d address (inl order) (inl one) (inl two) (inr apart) = inl (record { order = order; one = one; two = two; apart = apart })
  differ_by c d address (inl order) (inl one) (inl two) (inl same) = inr (λ is. is.apart same)
  differ_by c d address (inl order) (inl one) (inr none) same = inr (λ is. none is.two)
  differ_by c d address (inl order) (inr none) two same = inr (λ is. none is.one)
  differ_by c d address (inr high) one two same = inr (λ is. omega (arith, is.order))

  differ_or : (c d address : ℕ) → DoDiffer images c d address ⊎ (DoDiffer images c d address → ⊥)
  differ_or c d address =
      differ_by c d address (below_or c d) (named_or (byte_of images c address)) (named_or (byte_of images d address)) (same_or (byte_of images c address) (byte_of images d address))

  abbrev DiffersAt : ℕ → ℕ → Type 0
  DiffersAt address c = (d : ℕ) × DoDiffer images c d address

  abbrev HasDifference : ℕ → Type 0
  HasDifference address = (c : ℕ) × DiffersAt address c

  second_or : (address c : ℕ) → HasLeast (λ d. DoDiffer images c d address) ⊎ ((d : ℕ) → DoDiffer images c d address → ⊥)
  second_or address c = least_or (λ d. DoDiffer images c d address) (λ d. differ_or c d address) (length images) (λ d is. below_count images d address is.two)

  first_or : (address : ℕ) → HasLeast (DiffersAt address) ⊎ ((c : ℕ) → DiffersAt address c → ⊥)
  first_or address = least_or (DiffersAt address) (λ c. some_or (second_or address c)) (length images) (λ c has. below_count images c address has.1.one)

  address_or : HasLeast HasDifference ⊎ ((address : ℕ) → HasDifference address → ⊥)
  address_or = least_or HasDifference (λ address. some_or (first_or address)) (top images) (λ address has. below_top images has.0 address has.1.1.one)

  two_by : (address c d e f : ℕ) → c ≤ e → ((m : ℕ) → DoDiffer images c m address → d ≤ m) → DoDiffer images e f address → (c ≡ e) ⊎ (c ≢ e) → IsPairUpTo (c, d) (e, f)
  two_by address c d e f low least is (inl same) = inr (same, least f (rw same is))
  two_by address c d e f low least is (inr not) = inl (omega arith)

  first_difference : (address : ℕ) → ((m : ℕ) → HasDifference m → address ≤ m) → (one : HasLeast (DiffersAt address)) → (two : HasLeast (λ d. DoDiffer images one.0 d address)) → IsFirstDifference images one.0 two.0 address
  first_difference address least one two = record {
    is = two.1;
    least = λ c d place is. least place (c, (d, is));
    first = λ c d is. two_by address one.0 two.0 c d (one.2 c (d, is)) two.2 is (cases_eq one.0 c);
  }

-- ---- the job

cells_of : Geometry → List ImageValue → List (Option ℕ)
cells_of shape images = map (first_byte images) (range_with_len 0 shape.memory)

cells_first : (shape : Geometry) (images : List ImageValue) → AreFirst images shape.memory (cells_of shape images)
unfolding cells_of
cells_first shape images = record {
  count = length-map (range_with_len 0 shape.memory) (first_byte images) ∙ length-range_with_len 0 shape.memory;
  each = λ address low. get_or-map-range_with_len (first_byte images) 0 shape.memory address address None low (omega arith);
}

-- ---- either

module _ (shape : Geometry) (images : List ImageValue) where
  abbrev Either : Type 0
  Either = ((job : JobValue) × IsJoined shape images job) ⊎ ((fault : JobFault) × HasJoinFault shape images fault)

  by_second : AreWithin shape images → (address : ℕ) → ((m : ℕ) → HasDifference images m → address ≤ m) → (one : HasLeast (DiffersAt images address))
      → HasLeast (λ d. DoDiffer images one.0 d address) ⊎ ((d : ℕ) → DoDiffer images one.0 d address → ⊥) → Either
  by_second within address least one (inl two) = inr (faults.Overlap one.0 two.0 address, (within, first_difference images address least one two))
  by_second within address least one (inr none) = absurd (none one.1.0 one.1.1)

  by_first : AreWithin shape images → (address : ℕ) → HasDifference images address → ((m : ℕ) → HasDifference images m → address ≤ m) → HasLeast (DiffersAt images address) ⊎ ((c : ℕ) → DiffersAt images address c → ⊥) → Either
  by_first within address has least (inl one) = by_second within address least one (second_or images address one.0)
  by_first within address has least (inr none) = absurd (none has.0 has.1)

  by_difference : AreWithin shape images → HasLeast (HasDifference images) ⊎ ((address : ℕ) → HasDifference images address → ⊥) → Either
  by_difference within (inl found) = by_first within found.0 found.1 found.2 (first_or images found.0)
  by_difference within (inr none) =
      let texts : List (List ℕ) = map (λ image. image.text) images in
      let start : List ℕ = map (λ cell. unwrap_or cell 0) (cells_of shape images) in
      let job : JobValue = record { shape = shape; texts = texts; start = start } in
      inl (job, is_joined shape images within (λ c d address is. none address (c, (d, is))) (cells_of shape images) (cells_first shape images) texts start job refl refl refl)

  by_address : (core : ℕ) → HasPast shape images core → ((m : ℕ) → HasPast shape images m → core ≤ m) → HasLeast (IsPast shape images core) ⊎ ((address : ℕ) → IsPast shape images core address → ⊥) → Either
  by_address core has least (inl found) = let first = first_past shape images core least found in inr (faults.Beyond core first.0, first.1)
  by_address core has least (inr none) = absurd (none has.0 has.1)

  by_past : HasLeast (HasPast shape images) ⊎ ((core : ℕ) → HasPast shape images core → ⊥) → Either
  by_past (inl found) = by_address found.0 found.1 found.2 (past_at shape images found.0)
  by_past (inr none) = by_difference (λ core address is. none core (address, is)) (address_or images)

pub either : JobOrFault
either shape images = by_past shape images (past_core shape images)
