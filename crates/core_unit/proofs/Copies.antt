-- Copies of lines go on agreeing with the flat memory.
use Rattle.std.proofs.Common.{◌≡◌, ◌≢◌, ℕ, ◌+◌, ◌-◌, ◌*◌, ◌/◌, ◌%◌, ◌<◌, ◌≤◌, ◌==◌, List, ◌++◌, All, length, get_or, set, take, drop, Option, Some, None, if◌then◌else◌, sym, ap, ◌∙◌, subst, arith, get_or-set_same, get_or-set_other, length-set, length-drop, get_or-take, get_or-drop}
use mathlib.Core.Logic.{dite}
use native.Mathlib.Decide.{ℕ_discrete, dec_le, dec_lt}
use Rattle.std.proofs.lemmas.List.{ext_get_or, length-take-le}
use Rattle.std.proofs.lemmas.Nat.{same_from_place, div-add-mod', mod_below}
use Rattle.pmsi_model.specs.declared.job.Geometry.{Geometry}
use Rattle.pmsi_model.specs.declared.Access.{Access}
use Rattle.pmsi_model.specs.declared.Mode.{Mode}
use Rattle.pmsi_model.specs.declared.Mode.TheVariants.{Modified}
use Rattle.pmsi_model.specs.Geometry.{line_of}
use Rattle.pmsi_model.specs.Words.{number_of, bytes_of}
use Rattle.pmsi_model.specs.Access.{access_bytes, width_of}
use Rattle.pmsi_model.specs.Parts.{word_at}
use Rattle.pmsi_model.specs.Phase.{bytes_from, met_bytes, memory_after, with_bytes}
use Rattle.pmsi_model.proofs.Numbers.{next_multiple}
use Rattle.pmsi_model.proofs.Bytes.{length-bytes_from, get_or-bytes_from, bytes_from_below, length-with_bytes, get_or-with_bytes_before, get_or-with_bytes_past, get_or-with_bytes_at, bytes_of-number_of}
use Rattle.pmsi_model.proofs.Accesses.{lane_fits, access_size}
use Rattle.cache_array.specs.Cache.{word_place}
use Rattle.rv_exec.specs.Accesses.{bytes_after, covered}
use Rattle.core_unit.specs.Copies.{AreCopies}
use Rattle.core_unit.proofs.Words.{length-spliced, spliced_after, spliced_at, spliced_before}

-- ---- an access and the aligned word that holds its address

module _ (a w : ℕ) (memory : List ℕ) (lane : a % 4 + w ≤ 4) (within : 4 * (a / 4) + 4 ≤ length memory) where
  word_length : length (bytes_from (4 * (a / 4)) 4 memory) ≡ 4
  word_length = length-bytes_from (4 * (a / 4)) 4 memory within

  -- the bytes that are met, in the word
  pub met_here : take w (drop (a % 4) (bytes_from (4 * (a / 4)) 4 memory)) ≡ bytes_from a w memory
  met_here = let size : length (bytes_from a w memory) ≡ w = length-bytes_from a w memory (omega arith) in
      ext_get_or 0 (take w (drop (a % 4) (bytes_from (4 * (a / 4)) 4 memory))) (bytes_from a w memory)
      (length-take-le w (drop (a % 4) (bytes_from (4 * (a / 4)) 4 memory)) (omega (arith, length-drop (a % 4) (bytes_from (4 * (a / 4)) 4 memory), word_length)) ∙ sym size)
      (λ i below. let short : i < w = omega (arith, length-take-le w (drop (a % 4) (bytes_from (4 * (a / 4)) 4 memory)) (omega (arith, length-drop (a % 4) (bytes_from (4 * (a / 4)) 4 memory), word_length))) in
      get_or-take w (drop (a % 4) (bytes_from (4 * (a / 4)) 4 memory)) i 0 short ∙ get_or-drop (a % 4) (bytes_from (4 * (a / 4)) 4 memory) i 0
      ∙ get_or-bytes_from (4 * (a / 4)) 4 memory (a % 4 + i) (omega arith) ∙ ap (λ (n : ℕ). get_or memory n 0) (let e : 4 * (a / 4) + (a % 4 + i) ≡ a + i = omega arith in e)
      ∙ sym (get_or-bytes_from a w memory i short))

  -- the word once bytes are written
  pub written_here : (bytes : List ℕ) → length bytes ≡ w →
      bytes_from (4 * (a / 4)) 4 (with_bytes a bytes memory) ≡ take (a % 4) (bytes_from (4 * (a / 4)) 4 memory) ++ bytes ++ drop (a % 4 + w) (bytes_from (4 * (a / 4)) 4 memory)
  written_here bytes size = let old : List ℕ = bytes_from (4 * (a / 4)) 4 memory in let new : List ℕ = with_bytes a bytes memory in
      let stop : a % 4 + length bytes ≡ a % 4 + w = omega arith in let fits : a % 4 + w ≤ length old = omega (arith, word_length) in
      let here : length (bytes_from (4 * (a / 4)) 4 new) ≡ 4 = length-bytes_from (4 * (a / 4)) 4 new (omega (arith, length-with_bytes a bytes memory)) in
      ext_get_or 0 (bytes_from (4 * (a / 4)) 4 new) (take (a % 4) old ++ bytes ++ drop (a % 4 + w) old)
      (here ∙ sym (length-spliced old bytes (a % 4) (a % 4 + w) stop fits ∙ word_length))
      (λ i below. let four : i < 4 = omega (arith, here) in get_or-bytes_from (4 * (a / 4)) 4 new i four ∙ dite (dec_lt i (a % 4))
      (λ low. get_or-with_bytes_before a bytes memory (4 * (a / 4) + i) (omega arith) ∙ sym (get_or-bytes_from (4 * (a / 4)) 4 memory i four) ∙ sym (spliced_before old bytes (a % 4) (a % 4 + w) stop fits i low))
      (λ high. dite (dec_lt i (a % 4 + w))
      (λ mid. ap (λ (n : ℕ). get_or new n 0) (let e : 4 * (a / 4) + i ≡ a + (i - a % 4) = omega arith in e) ∙ get_or-with_bytes_at a bytes memory (i - a % 4) (omega arith) (omega arith)
      ∙ sym (spliced_at old bytes (a % 4) (a % 4 + w) stop fits i (omega arith) mid))
      (λ past. get_or-with_bytes_past a bytes memory (4 * (a / 4) + i) (omega arith) ∙ sym (get_or-bytes_from (4 * (a / 4)) 4 memory i four) ∙ sym (spliced_after old bytes (a % 4) (a % 4 + w) stop fits i (omega arith)))))

  byte_else : (at : ℕ) (bytes : List ℕ) → length bytes ≡ w → at / 4 ≢ a / 4 → get_or (with_bytes a bytes memory) at 0 ≡ get_or memory at 0
  byte_else at bytes size other = dite (dec_le a at)
      (λ above. get_or-with_bytes_past a bytes memory at (omega arith))
      (λ under. get_or-with_bytes_before a bytes memory at (omega arith))

  -- another word
  pub written_else : (i : ℕ) (bytes : List ℕ) → length bytes ≡ w → 4 * i + 4 ≤ length memory → i ≢ a / 4 → bytes_from (4 * i) 4 (with_bytes a bytes memory) ≡ bytes_from (4 * i) 4 memory
  written_else i bytes size below other = let here : length (bytes_from (4 * i) 4 (with_bytes a bytes memory)) ≡ 4 = length-bytes_from (4 * i) 4 (with_bytes a bytes memory) (omega (arith, length-with_bytes a bytes memory)) in
      ext_get_or 0 (bytes_from (4 * i) 4 (with_bytes a bytes memory)) (bytes_from (4 * i) 4 memory) (here ∙ sym (length-bytes_from (4 * i) 4 memory below))
      (λ j short. let four : j < 4 = omega (arith, here) in
      get_or-bytes_from (4 * i) 4 (with_bytes a bytes memory) j four ∙ byte_else (4 * i + j) bytes size (let q : (4 * i + j) / 4 ≡ i = omega arith in λ same. other (sym q ∙ same)) ∙ sym (get_or-bytes_from (4 * i) 4 memory j four))

-- ---- words of memory

-- the bytes of a word's number are those of the word
word_bytes : (memory : List ℕ) (i : ℕ) → All (λ byte. byte < 256) memory → 4 * i + 4 ≤ length memory → bytes_of 4 (word_at memory i) ≡ bytes_from (4 * i) 4 memory
word_bytes memory i small within = subst (λ (n : ℕ). bytes_of n (number_of (bytes_from (4 * i) 4 memory)) ≡ bytes_from (4 * i) 4 memory) (length-bytes_from (4 * i) 4 memory within)
    (bytes_of-number_of (bytes_from (4 * i) 4 memory) (bytes_from_below (4 * i) 4 memory small))

module _ (access : Access) (memory : List ℕ) (aligned : access.address % width_of access.op ≡ 0) (small : All (λ byte. byte < 256) memory) (within : 4 * (access.address / 4) + 4 ≤ length memory) where
  fits : access.address % 4 + width_of access.op ≤ 4
  fits = lane_fits access.op access.address aligned

  pub covered_is : covered access (word_at memory (access.address / 4)) ≡ met_bytes access memory
  covered_is = ap (λ (bytes : List ℕ). take (width_of access.op) (drop (access.address % 4) bytes)) (word_bytes memory (access.address / 4) small within)
      ∙ met_here access.address (width_of access.op) memory fits within

  after_size : length (access_bytes access.op access.operand (met_bytes access memory)) ≡ width_of access.op
  after_size = access_size access.op access.operand (met_bytes access memory) (length-bytes_from access.address (width_of access.op) memory (omega (arith, fits)))

  after_is : bytes_from (4 * (access.address / 4)) 4 (memory_after access memory) ≡ bytes_after access (word_at memory (access.address / 4))
  after_is = let lane : ℕ = access.address % 4 in let w : ℕ = width_of access.op in let met : List ℕ = met_bytes access memory in
      written_here access.address w memory fits within (access_bytes access.op access.operand met) after_size
      ∙ ap (λ (bytes : List ℕ). take lane bytes ++ access_bytes access.op access.operand met ++ drop (lane + w) bytes) (sym (word_bytes memory (access.address / 4) small within))
      ∙ ap (λ (bytes : List ℕ). take lane (bytes_of 4 (word_at memory (access.address / 4))) ++ access_bytes access.op access.operand bytes ++ drop (lane + w) (bytes_of 4 (word_at memory (access.address / 4)))) (sym covered_is)

  -- the words of memory after an access
  pub word_at-after : (i : ℕ) → 4 * i + 4 ≤ length memory →
      word_at (memory_after access memory) i ≡ (if i == access.address / 4 then number_of (bytes_after access (word_at memory (access.address / 4))) else word_at memory i)
  word_at-after i below = dite (ℕ_discrete i (access.address / 4))
      (λ same. let here : word_at (memory_after access memory) i ≡ number_of (bytes_after access (word_at memory (access.address / 4))) =
      ap (λ (n : ℕ). word_at (memory_after access memory) n) same ∙ ap number_of after_is in grind arith)
      (λ other. let kept : word_at (memory_after access memory) i ≡ word_at memory i =
      ap number_of (written_else access.address (width_of access.op) memory fits within i (access_bytes access.op access.operand (met_bytes access memory)) after_size below other) in grind arith)

-- ---- places

-- the word at an address, by its line and its place in the line
pub place_of_word : (a count : ℕ) → 0 < count → a / (4 * count) * count + a % (4 * count) / 4 ≡ a / 4
place_of_word a count some = let parts = div-add-mod' a (4 * count) in let q : ℕ = a / (4 * count) in let r : ℕ = a % (4 * count) in
    let m : q * (4 * count) ≡ 4 * (q * count) = grind arith in let p : ℕ = q * count in omega arith

pub place_below : (a count : ℕ) → 0 < count → a % (4 * count) / 4 < count
place_below a count some = let below = mod_below a (4 * count) (omega arith) in omega arith

-- an address and the aligned one of its word have one line and one place in it
aligned_place : (a count : ℕ) → 0 < count → ((a - a % 4) / (4 * count) ≡ a / (4 * count)) × ((a - a % 4) % (4 * count) / 4 ≡ a % (4 * count) / 4)
aligned_place a count some = let b : ℕ = a - a % 4 in let one : b / 4 ≡ a / 4 = omega arith in
    same_from_place (b / (4 * count)) (b % (4 * count) / 4) (a / (4 * count)) (a % (4 * count) / 4) count (place_below b count some) (place_below a count some)
    (place_of_word b count some ∙ one ∙ sym (place_of_word a count some))

pub aligned_line : (shape : Geometry) (a : ℕ) → 0 < shape.line_words → line_of shape (a - a % 4) ≡ line_of shape a
aligned_line shape a some = (aligned_place a shape.line_words some).0

pub aligned_word : (shape : Geometry) (a : ℕ) → 0 < shape.line_words → word_place shape (a - a % 4) ≡ word_place shape a
aligned_word shape a some = (aligned_place a shape.line_words some).1

-- ---- copies

module _ (count : ℕ) (some : 0 < count) where
  -- nothing changes but the order of lines
  pub copies_same : (memory : List ℕ) (mode mode' : ℕ → Option Mode) (copy copy' : ℕ → List ℕ) →
      ((l : ℕ) → mode' l ≡ mode l) → ((l : ℕ) → copy' l ≡ copy l) → AreCopies count memory mode copy → AreCopies count memory mode' copy'
  copies_same memory mode mode' copy copy' modes copies g = record {
    words = λ line place below held. grind (arith, modes line, copies line, g.words line place below);
    sizes = λ line held. grind (arith, modes line, copies line, g.sizes line);
    within = λ line held. grind (arith, modes line, g.within line);
  }

  -- the word of a line at a place, where one word was written
  written_at : (copy : ℕ → List ℕ) (memory memory' : List ℕ) (line place l at operand : ℕ) → place < count → at < count → length (copy line) ≡ count →
      get_or (copy l) at 0 ≡ word_at memory (l * count + at) → word_at memory' (l * count + at) ≡ (if l * count + at == line * count + place then operand else word_at memory (l * count + at)) →
      get_or (if l == line then set (copy line) place operand else copy l) at 0 ≡ word_at memory' (l * count + at)
  written_at copy memory memory' line place l at operand within below size old new = dite (ℕ_discrete l line)
      (λ here. dite (ℕ_discrete at place)
      (λ this. grind (arith, get_or-set_same (copy line) place operand 0))
      (λ that. grind (arith, get_or-set_other (copy line) place at operand 0)))
      (λ there. let apart : l * count + at ≢ line * count + place = λ same. there (same_from_place l at line place count below within same).0 in grind arith)

  -- a word of an owned line is written
  pub copies_written : (memory memory' : List ℕ) (mode mode' : ℕ → Option Mode) (copy copy' : ℕ → List ℕ) (line place operand : ℕ) →
      place < count → mode line ≡ Some Modified → length memory' ≡ length memory →
      ((l : ℕ) → mode' l ≡ mode l) → ((l : ℕ) → copy' l ≡ (if l == line then set (copy line) place operand else copy l)) →
      ((i : ℕ) → 4 * i + 4 ≤ length memory → word_at memory' i ≡ (if i == line * count + place then operand else word_at memory i)) →
      AreCopies count memory mode copy → AreCopies count memory' mode' copy'
  copies_written memory memory' mode mode' copy copy' line place operand within owned size modes copies new g = record {
    words = λ l at below held. let h : mode l ≢ None = grind (arith, modes l) in let w = g.within l h in let m = next_multiple l count in
        subst (λ (c : List ℕ). get_or c at 0 ≡ word_at memory' (l * count + at)) (sym (copies l))
        (written_at copy memory memory' line place l at operand within below (g.sizes line (grind arith)) (g.words l at below h) (new (l * count + at) (omega arith)));
    sizes = λ l held. grind (arith, modes l, copies l, g.sizes l, g.sizes line, length-set (copy line) place operand);
    within = λ l held. let w = g.within l (grind (arith, modes l)) in omega arith;
  }
