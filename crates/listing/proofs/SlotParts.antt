-- What a core has in one slot, in front of what it has in later ones.
use Rattle.std.proofs.Common.{◌≡◌, ℕ, suc, ◌+◌, ◌<◌, ◌≤◌, List, [], ◌∷◌, ◌++◌, All, length, take, drop, Bool, true, false, ◌==◌, cond, if◌then◌else◌, refl, ap, ◌∙◌, arith, length-append}
use Rattle.std.specs.List.{prefix_len}
use Rattle.std.proofs.Math.Seq.{take-append_seam, drop-append_seam}
use Rattle.pmsi_model.specs.declared.Row.{Row}
use Rattle.pmsi_model.specs.declared.Touch.{Touch}
use Rattle.listing.specs.Rests.{row_now, fills, phase_count}

-- in this slot a core was served these requests, one at most, and did these accesses in its phase and with its fill
pub record IsInSlot (slot : ℕ) (rows : List Row) (phase fill : List Touch) : Type 0 where
  pub one : length rows ≤ 1
  pub filled : All (λ row. row.fill ≡ slot) rows
  pub same : length fill ≡ length rows
  pub done : All (λ touch. touch.slot ≡ slot) (phase ++ fill)

-- these are of later slots
abbrev pub RowsAfter : ℕ → List Row → Type 0
RowsAfter slot rows = All (λ row. slot < row.fill) rows

abbrev pub TouchesAfter : ℕ → List Touch → Type 0
TouchesAfter slot touches = All (λ touch. slot < touch.slot) touches

if_yes : {X : Type 0} (b : Bool) (x y : X) → b ≡ true → (if b then x else y) ≡ x
if_yes b x y is = ap (λ a. if a then x else y) is

if_no : {X : Type 0} (b : Bool) (x y : X) → b ≡ false → (if b then x else y) ≡ y
if_no b x y is = ap (λ a. if a then x else y) is

front : {X : Type 0} (P : X → Type 0) (x : X) (xs : List X) → All P (x ∷ xs) → P x
front P x xs all = all 0 x (omega arith)

back : {X : Type 0} (P : X → Type 0) (x : X) (xs : List X) → All P (x ∷ xs) → All P xs
back P x xs all = λ k d below. all (suc k) d (omega arith)

none_now : (slot : ℕ) (rows : List Row) → RowsAfter slot rows → row_now slot rows ≡ []
none_now slot [] after = refl
none_now slot (row ∷ rows) after = if_no (row.fill == slot) (row ∷ []) [] (let later : slot < row.fill = front (λ r. slot < r.fill) row rows after in grind (arith, later))

rows_now : (slot : ℕ) (rows later : List Row) → length rows ≤ 1 → All (λ row. row.fill ≡ slot) rows → RowsAfter slot later → row_now slot (rows ++ later) ≡ rows
rows_now slot [] later one filled after = none_now slot later after
rows_now slot (row ∷ []) later one filled after = if_yes (row.fill == slot) (row ∷ []) [] (let now : row.fill ≡ slot = front (λ r. r.fill ≡ slot) row [] filled in grind (arith, now))
rows_now slot (row ∷ other ∷ rows) later one filled after = absurd (omega arith)

abbrev is_now : ℕ → Touch → Bool
is_now slot touch = touch.slot == slot

none_first : (slot : ℕ) (touches : List Touch) → TouchesAfter slot touches → prefix_len (is_now slot) touches ≡ 0
none_first slot [] after = refl
none_first slot (t ∷ touches) after = let no : is_now slot t ≡ false = (let later : slot < t.slot = front (λ u. slot < u.slot) t touches after in grind (arith, later)) in ap (λ (b : Bool). cond b (1 + prefix_len (is_now slot) touches) 0) no

all_first : (slot : ℕ) (now later : List Touch) → All (λ touch. touch.slot ≡ slot) now → TouchesAfter slot later → prefix_len (is_now slot) (now ++ later) ≡ length now
all_first slot [] later done after = none_first slot later after
all_first slot (t ∷ now) later done after = let yes : is_now slot t ≡ true = (let at : t.slot ≡ slot = front (λ u. u.slot ≡ slot) t now done in grind (arith, at)) in
    let more : prefix_len (is_now slot) (now ++ later) ≡ length now = all_first slot now later (back (λ u. u.slot ≡ slot) t now done) after in
    ap (λ (b : Bool). cond b (1 + prefix_len (is_now slot) (now ++ later)) 0) yes ∙ omega arith

-- its fills are as many as its requests
pub fills_are : (slot : ℕ) (rows later : List Row) (phase fill touches : List Touch) → IsInSlot slot rows phase fill → RowsAfter slot later
    → fills slot (record { rows = rows ++ later; touches = touches }) ≡ length rows
fills_are slot rows later phase fill touches h after = ap (λ (rs : List Row). length rs) (rows_now slot rows later h.one h.filled after)

-- and the accesses of its phase come first
pub phase_is : (slot : ℕ) (rows later : List Row) (phase fill more : List Touch) → IsInSlot slot rows phase fill → RowsAfter slot later → TouchesAfter slot more
    → phase_count slot (record { rows = rows ++ later; touches = phase ++ fill ++ more }) ≡ length phase
phase_is slot rows later phase fill more h after beyond =
    let all : prefix_len (is_now slot) (phase ++ fill ++ more) ≡ length (phase ++ fill) = all_first slot (phase ++ fill) more h.done beyond in
    let filled : fills slot (record { rows = rows ++ later; touches = phase ++ fill ++ more }) ≡ length rows = fills_are slot rows later phase fill (phase ++ fill ++ more) h after in
    let size : length (phase ++ fill) ≡ length phase + length fill = length-append phase fill in
    let same = h.same in omega arith

pub taken : {X : Type 0} (count : ℕ) (xs ys : List X) → count ≡ length xs → take count (xs ++ ys) ≡ xs
taken {X} count xs ys is = ap (λ (n : ℕ). take n (xs ++ ys)) is ∙ take-append_seam xs ys

pub left : {X : Type 0} (count : ℕ) (xs ys : List X) → count ≡ length xs → drop count (xs ++ ys) ≡ ys
left {X} count xs ys is = ap (λ (n : ℕ). drop n (xs ++ ys)) is ∙ drop-append_seam xs ys
