-- The lines of memory, and what an access finds and leaves there.
use Rattle.std.proofs.Common.{◌≡◌, ◌≢◌, ℕ, ◌+◌, ◌-◌, ◌*◌, ◌/◌, ◌%◌, ◌<◌, ◌≤◌, List, length, drop, get_or, sym, ap, ◌∙◌, subst, arith}
use Rattle.std.proofs.lemmas.List.{ext_get_or, length-take, length-drop}
use Rattle.std.proofs.Math.Nat.{div-div-eq-div-mul, div-eq_of_lt-le}
use mathlib.Core.Logic.{dite}
use native.Mathlib.Decide.{dec_le}
use Rattle.pmsi_model.specs.declared.job.Geometry.{Geometry}
use Rattle.pmsi_model.specs.declared.Access.{Access}
use Rattle.pmsi_model.specs.Geometry.{line_bytes, line_of}
use Rattle.pmsi_model.specs.Access.{width_of, access_bytes}
use Rattle.pmsi_model.specs.Phase.{bytes_from, met_bytes, memory_after}
use Rattle.pmsi_model.proofs.Numbers.{next_multiple}
use Rattle.pmsi_model.proofs.Accesses.{IsFit, lane_fits, new_size}
use Rattle.pmsi_model.proofs.Bytes.{get_or-bytes_from, get_or-with_bytes_before, get_or-with_bytes_past, get_or-with_bytes_at}
use Rattle.coherence_laws.specs.Apart.{line_bytes_in}

-- ---- lines

-- two memories have the same bytes on a line
abbrev pub SameLine : Geometry → ℕ → List ℕ → List ℕ → Type 0
SameLine shape line m n = (at : ℕ) → line_of shape at ≡ line → get_or m at 0 ≡ get_or n at 0

-- an address of a line, by its place there
pub line_of-place : (shape : Geometry) (line place : ℕ) → place < line_bytes shape → line_of shape (line * line_bytes shape + place) ≡ line
line_of-place shape line place below = div-eq_of_lt-le (line_bytes shape) (omega arith) (let m = next_multiple line (line_bytes shape) in omega arith)

length-bytes_from_same : (address width : ℕ) (m n : List ℕ) → length m ≡ length n → length (bytes_from address width m) ≡ length (bytes_from address width n)
length-bytes_from_same address width m n same = length-take width (drop address m)
    ∙ omega (arith, length-drop address m, length-drop address n) ∙ sym (length-take width (drop address n))

length-bytes_from_most : (address width : ℕ) (m : List ℕ) → length (bytes_from address width m) ≤ width
length-bytes_from_most address width m = omega (arith, length-take width (drop address m))

-- bytes from an address on are the same where each byte is
pub same_bytes_from : (address width : ℕ) (m n : List ℕ) → length m ≡ length n → ((place : ℕ) → place < width → get_or m (address + place) 0 ≡ get_or n (address + place) 0)
    → bytes_from address width m ≡ bytes_from address width n
same_bytes_from address width m n same each = ext_get_or 0 (bytes_from address width m) (bytes_from address width n) (length-bytes_from_same address width m n same)
    (λ place below. let short : place < width = omega (arith, length-bytes_from_most address width m) in
    get_or-bytes_from address width m place short ∙ each place short ∙ sym (get_or-bytes_from address width n place short))

-- the bytes of a line are the same where each byte of it is
pub line_bytes-same : (shape : Geometry) (line : ℕ) (m n : List ℕ) → length m ≡ length n → SameLine shape line m n → line_bytes_in shape line m ≡ line_bytes_in shape line n
line_bytes-same shape line m n size same = same_bytes_from (line * line_bytes shape) (line_bytes shape) m n size
    (λ place below. same (line * line_bytes shape + place) (line_of-place shape line place below))

-- the addresses of an aligned word lie on one line
pub same_word_line : (shape : Geometry) (a b : ℕ) → a / 4 ≡ b / 4 → line_of shape a ≡ line_of shape b
same_word_line shape a b same = sym (div-div-eq-div-mul a 4 shape.line_words) ∙ ap (λ (n : ℕ). n / shape.line_words) same ∙ div-div-eq-div-mul b 4 shape.line_words

-- ---- an access

-- it lies on one line
pub covered_line : (shape : Geometry) (access : Access) (at : ℕ) → access.address % width_of access.op ≡ 0 → access.address ≤ at → at < access.address + width_of access.op
    → line_of shape at ≡ line_of shape access.address
covered_line shape access at aligned low high = same_word_line shape at access.address (omega (arith, lane_fits access.op access.address aligned))

-- a byte past the access stays
uncovered_after : (access : Access) (memory : List ℕ) (at : ℕ) → IsFit (length memory) access → (access.address ≤ at → at < access.address + width_of access.op → ⊥)
    → get_or (memory_after access memory) at 0 ≡ get_or memory at 0
uncovered_after access memory at fit clear = let size = new_size access memory fit in let bytes : List ℕ = access_bytes access.op access.operand (met_bytes access memory) in
    dite (dec_le access.address at)
    (λ low. dite (dec_le (access.address + width_of access.op) at)
    (λ past. get_or-with_bytes_past access.address bytes memory at (omega (arith, size)))
    (λ within. absurd (clear low (omega arith))))
    (λ under. get_or-with_bytes_before access.address bytes memory at (omega arith))

-- no byte of another line changes
pub other_line_after : (shape : Geometry) (access : Access) (memory : List ℕ) (at : ℕ) → IsFit (length memory) access → line_of shape at ≢ line_of shape access.address
    → get_or (memory_after access memory) at 0 ≡ get_or memory at 0
other_line_after shape access memory at fit other = uncovered_after access memory at fit (λ low high. other (covered_line shape access at fit.aligned low high))

-- ---- two memories that have the same bytes on the line of an access

module _ (shape : Geometry) (access : Access) (m n : List ℕ) (size : length m ≡ length n) (fit : IsFit (length m) access) (same : SameLine shape (line_of shape access.address) m n) where
  -- the access meets the same bytes
  pub met_same : met_bytes access m ≡ met_bytes access n
  met_same = same_bytes_from access.address (width_of access.op) m n size
      (λ place below. same (access.address + place) (covered_line shape access (access.address + place) fit.aligned (omega arith) (omega arith)))

  fit' : IsFit (length n) access
  fit' = subst (λ (s : ℕ). IsFit s access) size fit

  written_at : (at : ℕ) → access.address ≤ at → at < access.address + width_of access.op → get_or (memory_after access m) at 0 ≡ get_or (memory_after access n) at 0
  written_at at low high =
      let place : ℕ = at - access.address in let there : access.address + (at - access.address) ≡ at = omega arith in
      let in_m = new_size access m fit in let in_n = new_size access n fit' in
      subst (λ (a : ℕ). get_or (memory_after access m) a 0 ≡ get_or (memory_after access n) a 0) there
      (get_or-with_bytes_at access.address (access_bytes access.op access.operand (met_bytes access m)) m (at - access.address) (let w = fit.within in omega arith) (omega arith)
      ∙ ap (λ (bytes : List ℕ). get_or (access_bytes access.op access.operand bytes) (at - access.address) 0) met_same
      ∙ sym (get_or-with_bytes_at access.address (access_bytes access.op access.operand (met_bytes access n)) n (at - access.address) (let w = fit'.within in omega arith) (omega arith)))

  -- and leaves the same byte wherever they had the same
  pub after_same : (at : ℕ) → get_or m at 0 ≡ get_or n at 0 → get_or (memory_after access m) at 0 ≡ get_or (memory_after access n) at 0
  after_same at before = dite (dec_le access.address at)
      (λ low. dite (dec_le (access.address + width_of access.op) at)
      (λ past. uncovered_after access m at fit (λ l h. absurd (omega arith)) ∙ before ∙ sym (uncovered_after access n at fit' (λ l h. absurd (omega arith))))
      (λ within. written_at at low (omega arith)))
      (λ under. uncovered_after access m at fit (λ l h. absurd (omega arith)) ∙ before ∙ sym (uncovered_after access n at fit' (λ l h. absurd (omega arith))))
