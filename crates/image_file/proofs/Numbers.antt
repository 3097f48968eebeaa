-- Numbers as four bytes, lowest first: four bytes are those of the number that they read as, and the bytes of a number
-- are read as it.
use Rattle.std.proofs.Common.{◌≡◌, ℕ, ◌+◌, ◌-◌, ◌*◌, ◌^◌, ◌<◌, ◌≤◌, List, [], ◌++◌, length, get_or, take, drop, map, refl, sym, ap, ◌∙◌, arith, inl, inr}
use Rattle.std.specs.List.{All, range_with_len}
use Rattle.std.proofs.lemmas.Bool.{cases_lt}
use Rattle.std.proofs.lemmas.List.{append-nil, drop_at, drop-drop, drop-take, take-append-drop, length-take, length-drop, get_or-drop, get_or-take, get_or_past, get_or_default}
use Rattle.std.proofs.lemmas.List.FromFn.{fill_by_all}
use Rattle.std.proofs.lemmas.Nat.{le_bytes_4, from_le_bytes-to_le_bytes_4}
use Rattle.byteorder.specs.Endian.{little_number, little_bytes}
use Rattle.image_file.specs.Format.{number_bytes}
use Rattle.image_file.specs.Checks.{number_at}
use Rattle.image_file.specs.Laws.{NumbersAgree}

abbrev pub IsBytes : List ℕ → Type 0
IsBytes bytes = (i : ℕ) → get_or bytes i 0 < 256

pub bytes_from_all : (bytes : List ℕ) → All (λ byte. byte < 256) bytes → IsBytes bytes
bytes_from_all bytes all i = elim (cases_lt i (length bytes)) [
  | inl lt ↦ all i 0 lt
  | inr le ↦ rw (get_or_past bytes i 0 le) (omega arith)
]

pub all_from_bytes : (bytes : List ℕ) → IsBytes bytes → All (λ byte. byte < 256) bytes
all_from_bytes bytes fits k d lt = rw (get_or_default bytes k d 0 lt) (fits k)

pub IsBytes-drop : (n : ℕ) (bytes : List ℕ) → IsBytes bytes → IsBytes (drop n bytes)
IsBytes-drop n bytes fits i = rw get_or-drop (fits (n + i))

pub IsBytes-take : (n : ℕ) (bytes : List ℕ) → IsBytes bytes → IsBytes (take n bytes)
IsBytes-take n bytes fits i = elim (cases_lt i n) [
  | inl lt ↦ rw (get_or-take n bytes i 0 lt) (fits i)
  | inr le ↦ rw (get_or_past (take n bytes) i 0 (omega (arith, length-take n bytes))) (omega arith)
]

-- four bytes are the bytes of the number that they read as
pub four_bytes : (bytes : List ℕ) → length bytes ≡ 4 → IsBytes bytes → little_bytes 4 (little_number 4 bytes) ≡ bytes
four_bytes bytes len fits = le_bytes_4 bytes (little_number 4 bytes) len fits (omega arith)

pub length-number : (n : ℕ) → length (number_bytes n) ≡ 4
unfolding number_bytes
length-number n = refl

pub number_below : (bytes : List ℕ) (place : ℕ) → IsBytes bytes → number_at bytes place < 2 ^ 32
unfolding number_at
number_below bytes place fits =
    let at = IsBytes-drop place bytes fits in
    omega (arith, at 0, at 1, at 2, at 3)

front_number : (n : ℕ) (bytes : List ℕ) → 4 ≤ n → little_number 4 (take n bytes) ≡ little_number 4 bytes
front_number n bytes le = rw (get_or-take n bytes 0 0 (omega arith), get_or-take n bytes 1 0 (omega arith), get_or-take n bytes 2 0 (omega arith), get_or-take n bytes 3 0 (omega arith)) refl

-- the words of a part of the bytes
pub words_of_part : (bytes words : List ℕ) (place : ℕ) → ((k : ℕ) → k < length words → get_or words k 0 ≡ little_number 4 (drop (4 * k) (take (4 * length words) (drop place bytes))))
    → words ≡ map (λ k. number_at bytes (place + 4 * k)) (range_with_len 0 (length words))
unfolding number_at
words_of_part bytes words place reads =
    fill_by_all (λ k. little_number 4 (drop (place + 4 * k) bytes)) words (length words) 0 refl (λ k lt.
    let more = 4 * length words - 4 * k in
    let sum : 4 * k + more ≡ 4 * length words = omega arith in
    let part = drop place bytes in
    reads k lt
    ∙ ap (λ (n : ℕ). little_number 4 (drop (4 * k) (take n part))) (sym sum)
    ∙ ap (little_number 4) (drop-take (4 * k) more part)
    ∙ front_number more (drop (4 * k) part) (omega arith)
    ∙ ap (little_number 4) (drop-drop (4 * k) place bytes))

-- where four bytes are left, they are those of the number that stands there
pub number_spelt : (bytes : List ℕ) (place : ℕ) → IsBytes bytes → place + 4 ≤ length bytes → drop place bytes ≡ number_bytes (number_at bytes place) ++ drop (place + 4) bytes
unfolding number_at number_bytes
number_spelt bytes place fits long =
    let left = drop place bytes in
    let len : length (take 4 left) ≡ 4 = omega (arith, length-take 4 left, length-drop place bytes) in
    let front : little_bytes 4 (little_number 4 left) ≡ take 4 left = ap (little_bytes 4) (sym (front_number 4 left (omega arith))) ∙ four_bytes (take 4 left) len (IsBytes-take 4 left (IsBytes-drop place bytes fits)) in
    sym (take-append-drop 4 left) ∙ ap (λ (x : List ℕ). x ++ drop 4 left) (sym front) ∙ ap (λ (x : List ℕ). little_bytes 4 (little_number 4 left) ++ x) (drop-drop 4 place bytes)

-- a number that is spelt at a place is the number that stands there
pub number_again : (bytes rest : List ℕ) (place n : ℕ) → n < 2 ^ 32 → drop place bytes ≡ number_bytes n ++ rest → number_at bytes place ≡ n
unfolding number_at number_bytes
number_again bytes rest place n small spelt = rw spelt (omega (arith, from_le_bytes-to_le_bytes_4 n small))

-- what stands behind a text
pub behind : (bytes text rest : List ℕ) (place more : ℕ) → length text ≡ more → drop place bytes ≡ text ++ rest → drop (place + more) bytes ≡ rest
behind bytes text rest place more len spelt = sym (drop-drop more place bytes) ∙ ap (drop more) spelt ∙ drop_at text rest more len

pub numbers_agree : NumbersAgree
unfolding number_at number_bytes
numbers_agree = (
  λ bytes all len. four_bytes bytes len (bytes_from_all bytes all),
  λ number small. number_again (number_bytes number) [] 0 number small (sym (append-nil (number_bytes number))),
)
