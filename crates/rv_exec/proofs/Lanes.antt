-- The bytes of a word that an access covers, as bits: at each place in a word, and for each width.
use Rattle.std.proofs.Common.{◌≡◌, ◌≤◌, ℕ, zero, suc, ◌+◌, ◌-◌, ◌*◌, ◌/◌, ◌%◌, ◌^◌, ◌<◌, ◌++◌, take, drop, bit_and, bit_or, refl, sym, ap, ◌∙◌, subst, arith}
use Rattle.std.proofs.lemmas.Nat.{mod-mul-add, and_mask, and_block, or_block, or_shifted, or_comm}
use Rattle.std.proofs.Math.Nat.{mod-eq_of_lt}
use Rattle.pmsi_model.specs.declared.AccessOp.{AccessOp}
use Rattle.pmsi_model.specs.declared.AccessOp.TheVariants.{Load, Store, Amo}
use Rattle.pmsi_model.specs.declared.instr.LoadOp.TheVariants.{Lb, Lh, Lw, Lbu, Lhu}
use Rattle.pmsi_model.specs.declared.instr.StoreOp.TheVariants.{Sb, Sh, Sw}
use Rattle.pmsi_model.specs.Words.{number_of, bytes_of}
use Rattle.pmsi_model.specs.Access.{width_of}

-- ---- the places of an access in its word

byte_place : (P : ℕ → Type 0) (lane : ℕ) → lane < 4 → P 0 → P 1 → P 2 → P 3 → P lane
byte_place P zero below p0 p1 p2 p3 = p0
byte_place P (suc zero) below p0 p1 p2 p3 = p1
byte_place P (suc (suc zero)) below p0 p1 p2 p3 = p2
byte_place P (suc (suc (suc zero))) below p0 p1 p2 p3 = p3
byte_place P (suc (suc (suc (suc n)))) below p0 p1 p2 p3 = absurd (omega arith)

half_place : (P : ℕ → Type 0) (lane : ℕ) → lane < 4 → lane % 2 ≡ 0 → P 0 → P 2 → P lane
half_place P zero below even p0 p2 = p0
half_place P (suc zero) below even p0 p2 = absurd (omega arith)
half_place P (suc (suc zero)) below even p0 p2 = p2
half_place P (suc (suc (suc zero))) below even p0 p2 = absurd (omega arith)
half_place P (suc (suc (suc (suc n)))) below even p0 p2 = absurd (omega arith)

word_place : (P : ℕ → Type 0) (lane : ℕ) → lane ≡ 0 → P 0 → P lane
word_place P lane none p0 = subst P (sym none) p0

-- what holds at each place, by the place and the width
record AtPlaces (P : ℕ → ℕ → Type 0) : Type 0 where
  byte_0 : P 0 1
  byte_1 : P 1 1
  byte_2 : P 2 1
  byte_3 : P 3 1
  half_0 : P 0 2
  half_2 : P 2 2
  word_0 : P 0 4

byte_at : (P : ℕ → ℕ → Type 0) (address : ℕ) → AtPlaces P → P (address % 4) 1
byte_at P address at = byte_place (λ lane. P lane 1) (address % 4) (omega arith) at.byte_0 at.byte_1 at.byte_2 at.byte_3

half_at : (P : ℕ → ℕ → Type 0) (address : ℕ) → address % 2 ≡ 0 → AtPlaces P → P (address % 4) 2
half_at P address even at = half_place (λ lane. P lane 2) (address % 4) (omega arith) (omega arith) at.half_0 at.half_2

word_at : (P : ℕ → ℕ → Type 0) (address : ℕ) → address % 4 ≡ 0 → AtPlaces P → P (address % 4) 4
word_at P address aligned at = word_place (λ lane. P lane 4) (address % 4) aligned at.word_0

at_place : (P : ℕ → ℕ → Type 0) (op : AccessOp) (address : ℕ) → address % width_of op ≡ 0 → AtPlaces P → P (address % 4) (width_of op)
at_place P (Load Lb) address aligned at = byte_at P address at
at_place P (Load Lbu) address aligned at = byte_at P address at
at_place P (Load Lh) address aligned at = half_at P address aligned at
at_place P (Load Lhu) address aligned at = half_at P address aligned at
at_place P (Load Lw) address aligned at = word_at P address aligned at
at_place P (Store Sb) address aligned at = byte_at P address at
at_place P (Store Sh) address aligned at = half_at P address aligned at
at_place P (Store Sw) address aligned at = word_at P address aligned at
at_place P (Amo op) address aligned at = word_at P address aligned at

-- ---- reading

abbrev Reads : ℕ → ℕ → ℕ → Type 0
Reads word lane width = bit_and (word / 2 ^ (8 * lane)) (2 ^ (8 * width) - 1) ≡ number_of (take width (drop lane (bytes_of 4 word)))

reads_at : (word : ℕ) → word < 2 ^ 32 → AtPlaces (Reads word)
reads_at word within = record {
  byte_0 = and_mask (word / 2 ^ 0) 8 ∙ omega arith;
  byte_1 = and_mask (word / 2 ^ 8) 8 ∙ omega arith;
  byte_2 = and_mask (word / 2 ^ 16) 8 ∙ omega arith;
  byte_3 = and_mask (word / 2 ^ 24) 8 ∙ omega arith;
  half_0 = and_mask (word / 2 ^ 0) 16 ∙ omega arith;
  half_2 = and_mask (word / 2 ^ 16) 16 ∙ omega arith;
  word_0 = and_mask (word / 2 ^ 0) 32 ∙ omega arith;
}

pub reads : (op : AccessOp) (address word : ℕ) → word < 2 ^ 32 → address % width_of op ≡ 0 → Reads word (address % 4) (width_of op)
reads op address word within aligned = at_place (Reads word) op address aligned (reads_at word within)

-- ---- what only reads leaves the word

abbrev Stays : ℕ → ℕ → ℕ → Type 0
Stays word lane width = bytes_of 4 word ≡ take lane (bytes_of 4 word) ++ take width (drop lane (bytes_of 4 word)) ++ drop (lane + width) (bytes_of 4 word)

stays_at : (word : ℕ) → AtPlaces (Stays word)
stays_at word = record { byte_0 = refl; byte_1 = refl; byte_2 = refl; byte_3 = refl; half_0 = refl; half_2 = refl; word_0 = refl }

pub stays : (op : AccessOp) (address word : ℕ) → address % width_of op ≡ 0 → Stays word (address % 4) (width_of op)
stays op address word aligned = at_place (Stays word) op address aligned (stays_at word)

-- ---- writing

-- the bits above so many, an access's own and those below it
abbrev joined : ℕ → ℕ → ℕ → ℕ → ℕ → ℕ
joined low high above own below = above * 2 ^ high + (own * 2 ^ low + below)

-- ones above and below an access clear its own bits alone
cleared : (low high rest above own below : ℕ) → below < 2 ^ low → own * 2 ^ low + below < 2 ^ high → above < 2 ^ rest → 2 ^ low ≤ 2 ^ high →
    bit_and (joined low high above own below) ((2 ^ rest - 1) * 2 ^ high + (2 ^ low - 1)) ≡ above * 2 ^ high + below
cleared low high rest above own below under fits within wide =
    and_block high above (2 ^ rest - 1) (own * 2 ^ low + below) (2 ^ low - 1) fits (omega arith)
    ∙ ap (λ (n : ℕ). n * 2 ^ high + bit_and (own * 2 ^ low + below) (2 ^ low - 1)) (and_mask above rest ∙ mod-eq_of_lt within)
    ∙ ap (λ (n : ℕ). above * 2 ^ high + n) (and_mask (own * 2 ^ low + below) low ∙ mod-mul-add own (2 ^ low) below under)

-- and others fill them
filled : (low high above own below : ℕ) → below < 2 ^ low → own * 2 ^ low + below < 2 ^ high → 2 ^ low ≤ 2 ^ high →
    bit_or (above * 2 ^ high + below) (own * 2 ^ low) ≡ joined low high above own below
filled low high above own below under fits wide =
    let none : own * 2 ^ low ≡ 0 * 2 ^ high + own * 2 ^ low = omega arith in
    ap (λ (n : ℕ). bit_or (above * 2 ^ high + below) n) none
    ∙ or_block high above 0 below (own * 2 ^ low) (omega arith) (omega arith)
    ∙ ap (λ (n : ℕ). n * 2 ^ high + bit_or below (own * 2 ^ low)) (or_comm above 0)
    ∙ ap (λ (n : ℕ). above * 2 ^ high + n) (or_comm below (own * 2 ^ low) ∙ or_shifted own low below under)

merged : (low high rest above old new below word ones : ℕ) → word ≡ joined low high above old below → ones ≡ (2 ^ rest - 1) * 2 ^ high + (2 ^ low - 1) →
    below < 2 ^ low → old * 2 ^ low + below < 2 ^ high → new * 2 ^ low + below < 2 ^ high → above < 2 ^ rest → 2 ^ low ≤ 2 ^ high →
    bit_or (bit_and word ones) (new * 2 ^ low) ≡ joined low high above new below
merged low high rest above old new below word ones split is_ones under fits fits_new within wide =
    rw (split, is_ones, cleared low high rest above old below under fits within wide) (filled low high above new below under fits_new wide)

shifted : (number low count : ℕ) → number % 2 ^ count * 2 ^ low < 2 ^ 32 → bit_and number (2 ^ count - 1) * 2 ^ low % 2 ^ 32 ≡ number % 2 ^ count * 2 ^ low
shifted number low count within = rw (and_mask number count) (mod-eq_of_lt within)

-- the ones outside an access
abbrev outside : ℕ → ℕ → ℕ
outside lane width = (2 ^ 32 - 1) - (2 ^ (8 * width) - 1) * 2 ^ (8 * lane) % 2 ^ 32

-- the word with a number in place of an access's bits, as masks and shifts make it
abbrev masked : ℕ → ℕ → ℕ → ℕ → ℕ
masked word number lane width = bit_or (bit_and word (outside lane width)) (bit_and number (2 ^ (8 * width) - 1) * 2 ^ (8 * lane) % 2 ^ 32)

-- the word's bits above an access, its own and those below it
abbrev above_of : ℕ → ℕ → ℕ → ℕ
above_of lane width word = word / 2 ^ (8 * (lane + width))

abbrev own_of : ℕ → ℕ → ℕ → ℕ
own_of lane width word = word / 2 ^ (8 * lane) % 2 ^ (8 * width)

abbrev below_of : ℕ → ℕ → ℕ
below_of lane word = word % 2 ^ (8 * lane)

abbrev placed : ℕ → ℕ → ℕ → ℕ → ℕ
placed lane width word own = joined (8 * lane) (8 * (lane + width)) (above_of lane width word) own (below_of lane word)

abbrev Merges : ℕ → ℕ → ℕ → ℕ → Type 0
Merges word number lane width = masked word number lane width ≡ placed lane width word (number % 2 ^ (8 * width))

merges : (lane width rest word number : ℕ) → number % 2 ^ (8 * width) * 2 ^ (8 * lane) < 2 ^ 32 → word ≡ placed lane width word (own_of lane width word) →
    outside lane width ≡ (2 ^ rest - 1) * 2 ^ (8 * (lane + width)) + (2 ^ (8 * lane) - 1) →
    below_of lane word < 2 ^ (8 * lane) → own_of lane width word * 2 ^ (8 * lane) + below_of lane word < 2 ^ (8 * (lane + width)) →
    number % 2 ^ (8 * width) * 2 ^ (8 * lane) + below_of lane word < 2 ^ (8 * (lane + width)) →
    above_of lane width word < 2 ^ rest → 2 ^ (8 * lane) ≤ 2 ^ (8 * (lane + width)) → Merges word number lane width
merges lane width rest word number fits_word split ones under fits fits_new within wide = rw (shifted number (8 * lane) (8 * width) fits_word)
    (merged (8 * lane) (8 * (lane + width)) rest (above_of lane width word) (own_of lane width word) (number % 2 ^ (8 * width)) (below_of lane word)
    word (outside lane width) split ones under fits fits_new within wide)

merges_at : (word number : ℕ) → word < 2 ^ 32 → AtPlaces (Merges word number)
merges_at word number within = record {
  byte_0 = merges 0 1 24 word number (omega arith) (omega arith) refl (omega arith) (omega arith) (omega arith) (omega arith) (omega arith);
  byte_1 = merges 1 1 16 word number (omega arith) (omega arith) refl (omega arith) (omega arith) (omega arith) (omega arith) (omega arith);
  byte_2 = merges 2 1 8 word number (omega arith) (omega arith) refl (omega arith) (omega arith) (omega arith) (omega arith) (omega arith);
  byte_3 = merges 3 1 0 word number (omega arith) (omega arith) refl (omega arith) (omega arith) (omega arith) (omega arith) (omega arith);
  half_0 = merges 0 2 16 word number (omega arith) (omega arith) refl (omega arith) (omega arith) (omega arith) (omega arith) (omega arith);
  half_2 = merges 2 2 0 word number (omega arith) (omega arith) refl (omega arith) (omega arith) (omega arith) (omega arith) (omega arith);
  word_0 = merges 0 4 0 word number (omega arith) (omega arith) refl (omega arith) (omega arith) (omega arith) (omega arith) (omega arith);
}

-- the bytes of the word so made
abbrev Writes : ℕ → ℕ → ℕ → ℕ → Type 0
Writes word number lane width = (new : ℕ) →
    new ≡ placed lane width word (number % 2 ^ (8 * width)) →
    bytes_of 4 new ≡ take lane (bytes_of 4 word) ++ bytes_of width number ++ drop (lane + width) (bytes_of 4 word)

writes_at : (word number : ℕ) → word < 2 ^ 32 → AtPlaces (Writes word number)
writes_at word number within = record {
  byte_0 = λ new is. grind arith;
  byte_1 = λ new is. grind arith;
  byte_2 = λ new is. grind arith;
  byte_3 = λ new is. grind arith;
  half_0 = λ new is. grind arith;
  half_2 = λ new is. grind arith;
  word_0 = λ new is. grind arith;
}

pub writes : (op : AccessOp) (address word number : ℕ) → word < 2 ^ 32 → address % width_of op ≡ 0 →
    bytes_of 4 (masked word number (address % 4) (width_of op)) ≡ take (address % 4) (bytes_of 4 word) ++ bytes_of (width_of op) number ++ drop (address % 4 + width_of op) (bytes_of 4 word)
writes op address word number within aligned = at_place (Writes word number) op address aligned (writes_at word number within)
    (masked word number (address % 4) (width_of op)) (at_place (Merges word number) op address aligned (merges_at word number within))
