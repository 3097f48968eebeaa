-- The bytes of a memory, and how they change.
use Rattle.std.proofs.Common.{◌≡◌, ℕ, zero, suc, ◌+◌, ◌-◌, ◌<◌, List, [], ◌∷◌, ◌++◌, ◌≤◌, length, set, take, drop, replicate, get_or, Option, Some, None, refl, ap, sym, arith, length-set, take_all, length-take-le, length-drop, ◌∙◌}
use Rattle.std.specs.Prelude.{if◌then◌else◌, nat_le, nat_lt, ◌&&◌, ◌==◌, slice_get}
use Rattle.std.specs.Option.{IsSome}
use Rattle.std.proofs.lemmas.List.{length-replicate, take-append-le}
use Rattle.std.proofs.lemmas.Bool.Decides.{nat_tests}
use Rattle.std.proofs.lemmas.Option.{slice_get_past, slice_get-get_or}
use borrow.Rule.Slice.PartMut.{mid_of, put_mid, same_len_mid}
use Rattle.asm_link.specs.Bytes.{byte_of}

byte_within : (memory : List (Option ℕ)) (address : ℕ) → IsSome (byte_of memory address) → address < length memory
unfolding byte_of
byte_within [] address some = absurd (grind (arith, some))
byte_within (b ∷ memory) zero some = omega arith
byte_within (b ∷ memory) (suc address) some = let k = byte_within memory address some in omega arith

byte_set : (memory : List (Option ℕ)) (at address : ℕ) (byte : Option ℕ) → at < length memory → byte_of (set memory at byte) address ≡ (if address == at then byte else byte_of memory address)
unfolding byte_of
byte_set [] at address byte lt = absurd (omega arith)
byte_set (b ∷ memory) zero zero byte lt = refl
byte_set (b ∷ memory) zero (suc address) byte lt = grind (arith, nat_tests)
byte_set (b ∷ memory) (suc at) zero byte lt = grind (arith, nat_tests)
byte_set (b ∷ memory) (suc at) (suc address) byte lt = grind (arith, nat_tests, byte_set memory at address byte (omega arith))

pub get_from : (memory : List (Option ℕ)) (from offset : ℕ) → slice_get memory (from + offset) ≡ slice_get (drop from memory) offset
get_from memory zero offset = let same : 0 + offset ≡ offset = omega arith in rw same refl
get_from [] (suc from) offset = refl
get_from (b ∷ memory) (suc from) offset = let same : suc from + offset ≡ suc (from + offset) = omega arith in rw same (get_from memory from offset)

-- ---- bytes that are put

-- the first `count` of some bytes stand from an address on
pub record IsPut (old now : List (Option ℕ)) (at : ℕ) (bytes : List ℕ) (count : ℕ) : Type 0 where
  pub room : length now ≡ length old
  pub byte : (address : ℕ) → byte_of now address ≡ (if nat_le at address && nat_lt address (at + count) then slice_get bytes (address - at) else byte_of old address)

pub puts_none : (old now : List (Option ℕ)) (at : ℕ) (bytes : List ℕ) → old ≡ now → IsPut old now at bytes 0
puts_none old now at bytes same = record { room = grind (arith, same); byte = λ address. grind (arith, nat_tests, same) }

pub put_within : (old now : List (Option ℕ)) (at : ℕ) (bytes : List ℕ) (count : ℕ) → IsPut old now at bytes count → IsSome (byte_of old (at + count)) → at + count < length now
put_within old now at bytes count put some = let within = byte_within old (at + count) some in omega (arith, put.room)

pub puts_next : (old now : List (Option ℕ)) (at : ℕ) (bytes : List ℕ) (count : ℕ) → IsPut old now at bytes count → IsSome (byte_of old (at + count)) → count < length bytes
    → IsPut old (set now (at + count) (Some (get_or bytes count 0))) at bytes (count + 1)
puts_next old now at bytes count put some lt =
    let within = put_within old now at bytes count put some in
    record {
      room = omega (arith, length-set now (at + count) (Some (get_or bytes count 0)), put.room);
      byte = λ address. grind (arith, nat_tests, byte_set now (at + count) address (Some (get_or bytes count 0)) within, put.byte address, slice_get-get_or bytes count 0 lt);
    }

-- ---- a range that is named

pub byte_past : (memory : List (Option ℕ)) (address : ℕ) → length memory ≤ address → byte_of memory address ≡ None
unfolding byte_of
byte_past memory address past = rw (slice_get_past memory address past) refl

byte_append : (xs ys : List (Option ℕ)) (address : ℕ) → byte_of (xs ++ ys) address ≡ (if nat_lt address (length xs) then byte_of xs address else byte_of ys (address - length xs))
unfolding byte_of
byte_append [] ys address = let same : address - 0 ≡ address = omega arith in grind (arith, nat_tests, same)
byte_append (x ∷ xs) ys zero = grind (arith, nat_tests)
byte_append (x ∷ xs) ys (suc address) = let same : suc address - length (x ∷ xs) ≡ address - length xs = omega arith in grind (arith, nat_tests, byte_append xs ys address, same)

byte_take : (n : ℕ) (memory : List (Option ℕ)) (address : ℕ) → address < n → byte_of (take n memory) address ≡ byte_of memory address
unfolding byte_of
byte_take zero memory address lt = absurd (omega arith)
byte_take (suc n) [] address lt = refl
byte_take (suc n) (b ∷ memory) zero lt = refl
byte_take (suc n) (b ∷ memory) (suc address) lt = byte_take n memory address (omega arith)

byte_drop : (n : ℕ) (memory : List (Option ℕ)) (address : ℕ) → byte_of (drop n memory) address ≡ byte_of memory (n + address)
unfolding byte_of
byte_drop zero memory address = let same : 0 + address ≡ address = omega arith in rw same refl
byte_drop (suc n) [] address = refl
byte_drop (suc n) (b ∷ memory) address = let same : suc n + address ≡ suc (n + address) = omega arith in rw same (byte_drop n memory address)

byte_nones : (n address : ℕ) → byte_of (replicate n None) address ≡ None
unfolding byte_of
byte_nones zero address = refl
byte_nones (suc n) zero = refl
byte_nones (suc n) (suc address) = byte_nones n address

byte_replicate : (n : ℕ) (byte : Option ℕ) (address : ℕ) → address < n → byte_of (replicate n byte) address ≡ byte
unfolding byte_of
byte_replicate zero byte address lt = absurd (omega arith)
byte_replicate (suc n) byte zero lt = refl
byte_replicate (suc n) byte (suc address) lt = byte_replicate n byte address (omega arith)

byte_grown : (memory : List (Option ℕ)) (len n address : ℕ) → length memory ≤ len → byte_of (take len memory ++ replicate n None) address ≡ byte_of memory address
byte_grown memory len n address le = rw (take_all len memory le) (grind (arith, nat_tests, byte_append memory (replicate n None) address, byte_nones n (address - length memory), byte_past memory address))

-- a part of a memory that is written over
byte_written : (memory part : List (Option ℕ)) (from to address : ℕ) → from ≤ to → to ≤ length memory → length part ≡ to - from
    → byte_of (take from memory ++ (part ++ drop (to - from) (drop from memory))) address ≡ (if nat_le from address && nat_lt address to then byte_of part (address - from) else byte_of memory address)
byte_written memory part from to address le within same =
    let behind = drop (to - from) (drop from memory) in
    grind (
      arith,
      nat_tests,
      byte_append (take from memory) (part ++ behind) address,
      byte_append part behind (address - from),
      byte_take from memory address,
      byte_drop (to - from) (drop from memory) (address - from - length part),
      byte_drop from memory (to - from + (address - from - length part)),
      length-take-le from memory,
      same,
    )

pub byte_named : (old grown lent part : List (Option ℕ)) (from to len n room address : ℕ) → length old ≤ len → grown ≡ take len old ++ replicate n None → from ≤ to → to ≤ length grown → room ≡ length grown
    → lent ≡ grown → part ≡ replicate (length (mid_of from (to - from) lent)) (Some 0)
    → byte_of (take room (put_mid from (to - from) lent part ++ drop (length (put_mid from (to - from) lent part)) grown)) address ≡ (if nat_le from address && nat_lt address to then Some 0 else byte_of old address)
byte_named old grown lent part from to len n room address le grows ordered within whole same fills =
    let middle = length-take-le (to - from) (drop from lent) (omega (arith, length-drop from lent, ap length same)) in
    let size : length part ≡ to - from = ap length fills ∙ length-replicate (length (mid_of from (to - from) lent)) (Some 0) ∙ middle in
    let p = put_mid from (to - from) lent part in
    let sizes = same_len_mid from (to - from) lent part (size ∙ sym middle) in
    let cut : take room (p ++ drop (length p) grown) ≡ p = take-append-le room p (drop (length p) grown) (omega (arith, ap length same)) ∙ take_all room p (omega (arith, ap length same)) in
    rw cut (grind (arith, nat_tests, byte_written lent part from to address ordered (omega (arith, ap length same)) size, byte_replicate (length part) (Some 0) (address - from), byte_grown old len n address le, grows, same, fills, size, middle))
