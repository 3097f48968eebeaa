-- Bytes that are put one behind the other.
use Rattle.std.proofs.Common.{◌≡◌, ℕ, zero, suc, ◌+◌, ◌-◌, ◌/◌, ◌%◌, ◌<◌, ◌≤◌, List, [], ◌∷◌, ◌++◌, length, take, get_or, Option, refl, ap, ◌∙◌, arith, add-one, append-nil, length-append}
use Rattle.std.specs.Prelude.{slice_get, IsSome}
use Rattle.std.specs.List.{flat_map}
use Rattle.std.proofs.Math.Seq.{take-suc}
use Rattle.std.proofs.lemmas.Bool.Decides.{nat_tests}
use Rattle.std.proofs.lemmas.Grind.{flat_map-append}
use Rattle.pmsi_model.specs.Words.{bytes_of}
use Rattle.asm_parse.specs.declared.item.Width.{Width}
use Rattle.asm_parse.specs.declared.item.Width.TheVariants.{Byte, Half, Word}
use Rattle.asm_parse.specs.Items.{bytes_in}
use Rattle.asm_link.specs.Bytes.{byte_of, Overwrites}

get_front : {A : Type 0} (xs ys : List A) (k : ℕ) → k < length xs → slice_get (xs ++ ys) k ≡ slice_get xs k
get_front [] ys k lt = absurd (omega (arith, lt))
get_front (x ∷ xs) ys zero lt = refl
get_front (x ∷ xs) ys (suc k) lt = get_front xs ys k (omega (arith, lt))

get_behind : {A : Type 0} (xs ys : List A) (k : ℕ) → length xs ≤ k → slice_get (xs ++ ys) k ≡ slice_get ys (k - length xs)
get_behind [] ys k le = ap (λ (n : ℕ). slice_get ys n) (omega arith)
get_behind (x ∷ xs) ys zero le = absurd (omega (arith, le))
get_behind (x ∷ xs) ys (suc k) le = get_behind xs ys k (omega (arith, le)) ∙ ap (λ (n : ℕ). slice_get ys n) (omega arith)

pub get_within : {A : Type 0} (xs : List A) (k : ℕ) → k < length xs → IsSome (slice_get xs k)
get_within [] k lt = absurd (omega (arith, lt))
get_within (x ∷ xs) zero lt = refl
get_within (x ∷ xs) (suc k) lt = get_within xs k (omega (arith, lt))

pub overwrites_more : (old mid new : List (Option ℕ)) (at next : ℕ) (xs ys : List ℕ) → next ≡ at + length xs → Overwrites old mid at xs → Overwrites mid new next ys → Overwrites old new at (xs ++ ys)
overwrites_more old mid new at next xs ys e first second address =
    grind (arith, nat_tests, e, first address, second address, length-append xs ys, get_front xs ys (address - at), get_behind xs ys (address - at))

-- what is named stays so
pub still_named : (old new : List (Option ℕ)) (at : ℕ) (xs : List ℕ) (address : ℕ) → Overwrites old new at xs → IsSome (byte_of old address) → IsSome (byte_of new address)
still_named old new at xs address over some = grind (arith, nat_tests, over address, some, get_within xs (address - at))

-- the lowest bytes of a word
pub lowest_bytes : (width : Width) (n : ℕ) (bytes : List ℕ) → bytes ≡ n % 256 ∷ n / 256 % 256 ∷ n / 65536 % 256 ∷ n / 16777216 % 256 ∷ [] → take (bytes_in width) bytes ≡ bytes_of (bytes_in width) n
lowest_bytes Byte n bytes e = rw e refl
lowest_bytes Half n bytes e = rw e refl
lowest_bytes Word n bytes e =
    let third : n / 256 / 256 ≡ n / 65536 = omega arith in
    let fourth : n / 256 / 256 / 256 ≡ n / 16777216 = omega arith in
    rw e (rw (fourth, third) refl)

pub flat_more : {A B : Type 0} (f : A → List B) (xs : List A) (i : ℕ) (d : A) → i < length xs → flat_map f (take (i + 1) xs) ≡ flat_map f (take i xs) ++ f (get_or xs i d)
flat_more f xs i d lt = rw add-one (ap (flat_map f) (take-suc xs i d lt) ∙ flat_map-append f (take i xs) (get_or xs i d ∷ []) ∙ ap (λ (k : List _). flat_map f (take i xs) ++ k) (append-nil (f (get_or xs i d))))

pub bytes_long : (count n : ℕ) → length (bytes_of count n) ≡ count
bytes_long zero n = refl
bytes_long (suc count) n = ap suc (bytes_long count (n / 256))
