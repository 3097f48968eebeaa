-- Laws of bytes in memory, and of the numbers that bytes spell.
use Rattle.std.proofs.Common.{◌≡◌, ℕ, zero, suc, ◌+◌, ◌-◌, ◌*◌, ◌/◌, ◌%◌, ◌^◌, ◌<◌, ◌≤◌, ◌&&◌, nat_le, nat_lt, if◌then◌else◌, List, [], ◌∷◌, All, length, get_or, drop, set, refl, sym, ap, ◌∙◌, arith}
use Rattle.std.proofs.lemmas.List.{length-set, length-take-le, length-drop, get_or-set_same, get_or-set_other, get_or-take, get_or-drop, ext_get_or}
use Rattle.std.proofs.lemmas.List.Elements.{All-nil, All-cons, All-head, All-tail, All-take, All-drop, All-set}
use Rattle.std.proofs.lemmas.Bool.Decides.{nat_tests}
use Rattle.std.proofs.lemmas.Nat.{mod_below, div_below}
use Rattle.std.proofs.Math.Nat.{div-div-eq-div-mul, pow-suc, pow-succ', zero-div}
use Rattle.pmsi_model.specs.Words.{number_of, bytes_of}
use Rattle.pmsi_model.specs.Phase.{bytes_from, with_bytes}
use Rattle.pmsi_model.specs.Latest.{byte_of}

-- ---- bytes of numbers

byte_of_zero : (place : ℕ) → byte_of 0 place ≡ 0
byte_of_zero place = ap (λ (n : ℕ). n % 256) (zero-div (256 ^ place))

-- the lowest byte of a number, and the others
pub byte_of_first : (byte n : ℕ) → byte < 256 → byte_of (byte + 256 * n) 0 ≡ byte
byte_of_first byte n h = omega arith

pub byte_of_next : (n place : ℕ) → byte_of n (suc place) ≡ byte_of (n / 256) place
byte_of_next n place = ap (λ (d : ℕ). n / d % 256) (pow-succ' 256 place) ∙ ap (λ (q : ℕ). q % 256) (sym (div-div-eq-div-mul n 256 (256 ^ place)))

rest_of : (byte n : ℕ) → byte < 256 → (byte + 256 * n) / 256 ≡ n
rest_of byte n h = omega arith

first_of : (byte n : ℕ) → byte < 256 → (byte + 256 * n) % 256 ≡ byte
first_of byte n h = omega arith

-- byte `place` of the number that bytes spell is the byte there, and 0 past them
pub byte_of_number_of : (bytes : List ℕ) (place : ℕ) → All (λ byte. byte < 256) bytes → byte_of (number_of bytes) place ≡ get_or bytes place 0
byte_of_number_of [] place h = byte_of_zero place
byte_of_number_of (byte ∷ bytes) zero h = byte_of_first byte (number_of bytes) (All-head (λ b. b < 256) byte bytes h)
byte_of_number_of (byte ∷ bytes) (suc place) h = byte_of_next (byte + 256 * number_of bytes) place
    ∙ ap (λ (n : ℕ). byte_of n place) (rest_of byte (number_of bytes) (All-head (λ b. b < 256) byte bytes h))
    ∙ byte_of_number_of bytes place (All-tail (λ b. b < 256) byte bytes h)

pub length-bytes_of : (count n : ℕ) → length (bytes_of count n) ≡ count
length-bytes_of zero n = refl
length-bytes_of (suc count) n = ap suc (length-bytes_of count (n / 256))

-- the bytes of a number are bytes
pub bytes_of_below : (count n : ℕ) → All (λ byte. byte < 256) (bytes_of count n)
bytes_of_below zero n = All-nil (λ b. b < 256)
bytes_of_below (suc count) n = All-cons (λ b. b < 256) (n % 256) (bytes_of count (n / 256)) (mod_below n 256 (omega arith)) (bytes_of_below count (n / 256))

-- to bytes and back, and back to bytes
pub number_of-bytes_of : (count n : ℕ) → n < 256 ^ count → number_of (bytes_of count n) ≡ n
number_of-bytes_of zero n h = omega arith
number_of-bytes_of (suc count) n h = ap (λ (q : ℕ). n % 256 + 256 * q) (number_of-bytes_of count (n / 256) (div_below n 256 (256 ^ count) (omega arith) (rw pow-suc at h))) ∙ omega arith

pub bytes_of-number_of : (bytes : List ℕ) → All (λ byte. byte < 256) bytes → bytes_of (length bytes) (number_of bytes) ≡ bytes
bytes_of-number_of [] h = refl
bytes_of-number_of (byte ∷ bytes) h = let first : byte < 256 = All-head (λ b. b < 256) byte bytes h in
    ap (λ (b : ℕ). b ∷ bytes_of (length bytes) ((byte + 256 * number_of bytes) / 256)) (first_of byte (number_of bytes) first)
    ∙ ap (λ (n : ℕ). byte ∷ bytes_of (length bytes) n) (rest_of byte (number_of bytes) first)
    ∙ ap (λ (bs : List ℕ). byte ∷ bs) (bytes_of-number_of bytes (All-tail (λ b. b < 256) byte bytes h))

-- ---- bytes of memory

pub length-bytes_from : (address width : ℕ) (memory : List ℕ) → address + width ≤ length memory → length (bytes_from address width memory) ≡ width
length-bytes_from address width memory h = length-take-le width (drop address memory) (omega (arith, length-drop address memory))

pub get_or-bytes_from : (address width : ℕ) (memory : List ℕ) (place : ℕ) → place < width → get_or (bytes_from address width memory) place 0 ≡ get_or memory (address + place) 0
get_or-bytes_from address width memory place h = get_or-take width (drop address memory) place 0 h ∙ get_or-drop address memory place 0

pub bytes_from_below : (address width : ℕ) (memory : List ℕ) → All (λ byte. byte < 256) memory → All (λ byte. byte < 256) (bytes_from address width memory)
bytes_from_below address width memory h = All-take (λ b. b < 256) width (drop address memory) (All-drop (λ b. b < 256) address memory h)

-- ---- writes

pub length-with_bytes : (address : ℕ) (bytes memory : List ℕ) → length (with_bytes address bytes memory) ≡ length memory
length-with_bytes address [] memory = refl
length-with_bytes address (byte ∷ bytes) memory = length-with_bytes (address + 1) bytes (set memory address byte) ∙ length-set memory address byte

pub with_bytes_below : (address : ℕ) (bytes memory : List ℕ) → All (λ byte. byte < 256) bytes → All (λ byte. byte < 256) memory → All (λ byte. byte < 256) (with_bytes address bytes memory)
with_bytes_below address [] memory hb h = h
with_bytes_below address (byte ∷ bytes) memory hb h = with_bytes_below (address + 1) bytes (set memory address byte)
    (All-tail (λ b. b < 256) byte bytes hb)
    (All-set (λ b. b < 256) memory address byte (All-head (λ b. b < 256) byte bytes hb) h)

-- bytes at other addresses stay
pub get_or-with_bytes_before : (address : ℕ) (bytes memory : List ℕ) (at : ℕ) → at < address → get_or (with_bytes address bytes memory) at 0 ≡ get_or memory at 0
get_or-with_bytes_before address [] memory at h = refl
get_or-with_bytes_before address (byte ∷ bytes) memory at h = get_or-with_bytes_before (address + 1) bytes (set memory address byte) at (omega arith) ∙ get_or-set_other memory address at byte 0 (omega arith)

pub get_or-with_bytes_past : (address : ℕ) (bytes memory : List ℕ) (at : ℕ) → address + length bytes ≤ at → get_or (with_bytes address bytes memory) at 0 ≡ get_or memory at 0
get_or-with_bytes_past address [] memory at h = refl
get_or-with_bytes_past address (byte ∷ bytes) memory at h = get_or-with_bytes_past (address + 1) bytes (set memory address byte) at (omega arith) ∙ get_or-set_other memory address at byte 0 (omega arith)

-- and the written ones are there
pub get_or-with_bytes_at : (address : ℕ) (bytes memory : List ℕ) (place : ℕ) → address + length bytes ≤ length memory → place < length bytes → get_or (with_bytes address bytes memory) (address + place) 0 ≡ get_or bytes place 0
get_or-with_bytes_at address [] memory place h below = absurd (omega arith)
get_or-with_bytes_at address (byte ∷ bytes) memory zero h below = let here : address + 0 ≡ address = omega arith in
    ap (λ (a : ℕ). get_or (with_bytes (address + 1) bytes (set memory address byte)) a 0) here
    ∙ get_or-with_bytes_before (address + 1) bytes (set memory address byte) address (omega arith)
    ∙ get_or-set_same memory address byte 0 (omega arith)
get_or-with_bytes_at address (byte ∷ bytes) memory (suc place) h below = let there : address + suc place ≡ (address + 1) + place = omega arith in
    ap (λ (a : ℕ). get_or (with_bytes (address + 1) bytes (set memory address byte)) a 0) there
    ∙ get_or-with_bytes_at (address + 1) bytes (set memory address byte) place (omega (arith, length-set memory address byte)) (omega arith)

with_bytes_within : (address : ℕ) (bytes memory : List ℕ) (at : ℕ) → address + length bytes ≤ length memory → address ≤ at → at < address + length bytes → get_or (with_bytes address bytes memory) at 0 ≡ get_or bytes (at - address) 0
with_bytes_within address bytes memory at h low high = let there : address + (at - address) ≡ at = omega arith in
    ap (λ (a : ℕ). get_or (with_bytes address bytes memory) a 0) (sym there) ∙ get_or-with_bytes_at address bytes memory (at - address) h (omega arith)

-- the byte at any address after a write
pub get_or-with_bytes : (address : ℕ) (bytes memory : List ℕ) (at : ℕ) → address + length bytes ≤ length memory →
    get_or (with_bytes address bytes memory) at 0 ≡ (if nat_le address at && nat_lt at (address + length bytes) then get_or bytes (at - address) 0 else get_or memory at 0)
get_or-with_bytes address bytes memory at h = grind (arith, nat_tests, get_or-with_bytes_before address bytes memory at, get_or-with_bytes_past address bytes memory at, with_bytes_within address bytes memory at h)

-- to write the bytes that are there changes nothing
same_within : (address width : ℕ) (memory : List ℕ) (at : ℕ) → address ≤ at → at < address + width → get_or (bytes_from address width memory) (at - address) 0 ≡ get_or memory at 0
same_within address width memory at low high = let there : address + (at - address) ≡ at = omega arith in
    get_or-bytes_from address width memory (at - address) (omega arith) ∙ ap (λ (a : ℕ). get_or memory a 0) there

same_at : (address width : ℕ) (memory : List ℕ) (at : ℕ) → address + width ≤ length memory → get_or (with_bytes address (bytes_from address width memory) memory) at 0 ≡ get_or memory at 0
same_at address width memory at h = let size : length (bytes_from address width memory) ≡ width = length-bytes_from address width memory h in
    grind (arith, nat_tests, get_or-with_bytes address (bytes_from address width memory) memory at, same_within address width memory at)

pub with_bytes_same : (address width : ℕ) (memory : List ℕ) → address + width ≤ length memory → with_bytes address (bytes_from address width memory) memory ≡ memory
with_bytes_same address width memory h = ext_get_or 0 (with_bytes address (bytes_from address width memory) memory) memory
    (length-with_bytes address (bytes_from address width memory) memory)
    (λ at below. same_at address width memory at h)
