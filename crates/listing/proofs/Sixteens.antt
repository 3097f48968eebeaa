-- Sixteen bytes of memory are the bytes of four words.
use Rattle.std.proofs.Common.{◌≡◌, ℕ, ◌+◌, ◌<◌, ◌≤◌, List, [], ◌∷◌, ◌++◌, All, length, get_or, take, drop, refl, sym, ap, ◌∙◌, arith}
use Rattle.std.specs.Int.{w32, to_le_bytes, from_le_bytes}
use Rattle.std.proofs.lemmas.List.{append-nil, get_or_past, take-append-drop, take-take, drop-take, drop-drop}
use Rattle.std.proofs.lemmas.List.Elements.{All-get_or}
use Rattle.std.proofs.lemmas.Nat.{le_bytes_4}
use mathlib.Core.Logic.{dite}
use native.Mathlib.Decide.{dec_lt}
use Rattle.pmsi_model.specs.Words.{number_of}
use Rattle.pmsi_model.specs.Phase.{bytes_from}
use Rattle.pmsi_model.proofs.Bytes.{length-bytes_from, bytes_from_below}

-- ---- one word

small : (bytes : List ℕ) → All (λ byte. byte < 256) bytes → (i : ℕ) → get_or bytes i 0 < 256
small bytes h i = dite (dec_lt i (length bytes)) (λ within. All-get_or (λ byte. byte < 256) bytes i 0 within h) (λ past. let nothing = get_or_past bytes i 0 (omega arith) in omega arith)

four_read : (bytes : List ℕ) → length bytes ≡ 4 → number_of bytes ≡ from_le_bytes w32 bytes
four_read [] size = absurd (omega arith)
four_read (a ∷ []) size = absurd (omega arith)
four_read (a ∷ b ∷ []) size = absurd (omega arith)
four_read (a ∷ b ∷ c ∷ []) size = absurd (omega arith)
four_read (a ∷ b ∷ c ∷ d ∷ []) size = omega arith
four_read (a ∷ b ∷ c ∷ d ∷ e ∷ more) size = absurd (omega arith)

-- the bytes of the word at an address are those of memory
pub word_bytes : (memory : List ℕ) (address n : ℕ) → All (λ byte. byte < 256) memory → address + 4 ≤ length memory → n ≡ number_of (bytes_from address 4 memory) → to_le_bytes w32 n ≡ bytes_from address 4 memory
word_bytes memory address n h fits is =
    let size = length-bytes_from address 4 memory fits in
    le_bytes_4 (bytes_from address 4 memory) n size (small (bytes_from address 4 memory) (bytes_from_below address 4 memory h)) (is ∙ four_read (bytes_from address 4 memory) size)

-- ---- four of them

four : (bytes more : List ℕ) → length bytes ≡ 4 → get_or bytes 0 0 ∷ get_or bytes 1 0 ∷ get_or bytes 2 0 ∷ get_or bytes 3 0 ∷ more ≡ bytes ++ more
four [] more size = absurd (omega arith)
four (a ∷ []) more size = absurd (omega arith)
four (a ∷ b ∷ []) more size = absurd (omega arith)
four (a ∷ b ∷ c ∷ []) more size = absurd (omega arith)
four (a ∷ b ∷ c ∷ d ∷ []) more size = refl
four (a ∷ b ∷ c ∷ d ∷ e ∷ others) more size = absurd (omega arith)

taken : (j k : ℕ) (xs : List ℕ) → take (j + k) xs ≡ take j xs ++ take k (drop j xs)
taken j k xs = sym (take-append-drop j (take (j + k) xs)) ∙ ap (λ (front : List ℕ). front ++ drop j (take (j + k) xs)) (take-take j (j + k) xs (omega arith)) ∙ ap (λ (back : List ℕ). take j xs ++ back) (drop-take j k xs)

bytes_more : (memory : List ℕ) (address j k next : ℕ) → next ≡ address + j → bytes_from address (j + k) memory ≡ bytes_from address j memory ++ bytes_from next k memory
bytes_more memory address j k next is = taken j k (drop address memory) ∙ ap (λ (rest : List ℕ). take j (drop address memory) ++ take k rest) (drop-drop j address memory)
    ∙ ap (λ (n : ℕ). take j (drop address memory) ++ take k (drop n memory)) (sym is)

pub sixteen_bytes : (memory : List ℕ) (address : ℕ) (a b c d : List ℕ) → address + 16 ≤ length memory → a ≡ bytes_from address 4 memory → b ≡ bytes_from (address + 4) 4 memory → c ≡ bytes_from (address + 8) 4 memory → d ≡ bytes_from (address + 12) 4 memory →
    get_or a 0 0 ∷ get_or a 1 0 ∷ get_or a 2 0 ∷ get_or a 3 0 ∷ get_or b 0 0 ∷ get_or b 1 0 ∷ get_or b 2 0 ∷ get_or b 3 0 ∷ get_or c 0 0 ∷ get_or c 1 0 ∷ get_or c 2 0 ∷ get_or c 3 0 ∷ get_or d 0 0 ∷ get_or d 1 0 ∷ get_or d 2 0 ∷ get_or d 3 0 ∷ []
    ≡ bytes_from address 16 memory
sixteen_bytes memory address a b c d fits p q r s =
    let la : length a ≡ 4 = ap (λ (x : List ℕ). length x) p ∙ length-bytes_from address 4 memory (omega arith) in
    let lb : length b ≡ 4 = ap (λ (x : List ℕ). length x) q ∙ length-bytes_from (address + 4) 4 memory (omega arith) in
    let lc : length c ≡ 4 = ap (λ (x : List ℕ). length x) r ∙ length-bytes_from (address + 8) 4 memory (omega arith) in
    let ld : length d ≡ 4 = ap (λ (x : List ℕ). length x) s ∙ length-bytes_from (address + 12) 4 memory (omega arith) in
    let last : c ++ d ≡ bytes_from (address + 8) 8 memory = ap (λ (x : List ℕ). x ++ d) r ∙ ap (λ (x : List ℕ). bytes_from (address + 8) 4 memory ++ x) s ∙ sym (bytes_more memory (address + 8) 4 4 (address + 12) (omega arith)) in
    let later : b ++ (c ++ d) ≡ bytes_from (address + 4) 12 memory = ap (λ (x : List ℕ). x ++ (c ++ d)) q ∙ ap (λ (x : List ℕ). bytes_from (address + 4) 4 memory ++ x) last ∙ sym (bytes_more memory (address + 4) 4 8 (address + 8) (omega arith)) in
    let all : a ++ (b ++ (c ++ d)) ≡ bytes_from address 16 memory = ap (λ (x : List ℕ). x ++ (b ++ (c ++ d))) p ∙ ap (λ (x : List ℕ). bytes_from address 4 memory ++ x) later ∙ sym (bytes_more memory address 4 12 (address + 4) refl) in
    four a _ la ∙ ap (λ (x : List ℕ). a ++ x) (four b _ lb ∙ ap (λ (x : List ℕ). b ++ x) (four c _ lc ∙ ap (λ (x : List ℕ). c ++ x) (four d [] ld ∙ append-nil d))) ∙ all
