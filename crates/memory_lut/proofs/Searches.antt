-- What searches of the table find.
use Rattle.std.proofs.Common.{◌≡◌, ℕ, ◌+◌, ◌<◌, ◌≤◌, List, [], ◌∷◌, length, Option, Some, None, Bool, ◌==◌, ◌&&◌, nat_lt, if◌then◌else◌, option_map, refl, sym, ap, ◌∙◌, arith}
use Rattle.std.specs.List.{filter, fold, list_any}
use Rattle.pmsi_model.specs.Machine.{Request, is_write, first_of, has_request, has_write, ahead}
use Rattle.pmsi_model.specs.Shared.{behind_in}
use Rattle.memory_lut.specs.declared.entry.Entry.{Entry}
use Rattle.memory_lut.specs.Table.{inserted, by_stamp, requests_of, posted_of, AreAbove, Rises, sooner, soonest, is_before, meets, queued}
use Rattle.memory_lut.proofs.ByStamp.{rises_rest, core_entry}

-- ---- the first of a line

abbrev first_entry : ℕ → List Entry → Option Entry
first_entry line [] = None
first_entry line (x ∷ xs) = if x.line == line then Some x else first_entry line xs

abbrev earlier : Option Entry → Option Entry → Option Entry
earlier None o = o
earlier (Some a) None = Some a
earlier (Some a) (Some b) = if nat_lt b.stamp a.stamp then Some b else Some a

earlier_first : (n line : ℕ) (e : Entry) (xs : List Entry) → e.stamp ≤ n → AreAbove n xs → earlier (Some e) (first_entry line xs) ≡ Some e
earlier_first n line e [] h a = refl
earlier_first n line e (x ∷ xs) h a = grind (arith, earlier_first n line e xs h a.1, a.0, h)

first_inserted : (line : ℕ) (e : Entry) (xs : List Entry) → Rises xs
    → first_entry line (inserted e xs) ≡ (if e.line == line then earlier (Some e) (first_entry line xs) else first_entry line xs)
first_inserted line e [] r = refl
first_inserted line e (x ∷ xs) r = grind (arith, first_inserted line e xs r.1, earlier_first x.stamp line e xs, r)

sooner_more : (line : ℕ) (f : Option Entry) (s : Entry) (o : Option Entry) → earlier (sooner line f (Some s)) o ≡ earlier f (if s.line == line then earlier (Some s) o else o)
sooner_more line None s o = grind arith
sooner_more line (Some f) s None = grind arith
sooner_more line (Some f) s (Some b) = grind arith

earlier_none : (f : Option Entry) → f ≡ earlier f None
earlier_none None = refl
earlier_none (Some f) = refl

fold_sooner : (line : ℕ) (f : Option Entry) (es : List (Option Entry)) → Rises (by_stamp es) → fold (sooner line) f es ≡ earlier f (first_entry line (by_stamp es))
fold_sooner line f [] r = earlier_none f
fold_sooner line f (None ∷ es) r = fold_sooner line f es r
fold_sooner line f (Some s ∷ es) r =
    let rest = rises_rest s (by_stamp es) r in
    fold_sooner line (sooner line f (Some s)) es rest ∙ sooner_more line f s (first_entry line (by_stamp es)) ∙ ap (earlier f) (sym (first_inserted line s (by_stamp es) rest))

first_core : (line : ℕ) (xs : List Entry) → option_map (λ (s : Entry). s.core) (first_entry line xs) ≡ first_of line (requests_of xs)
first_core line [] = refl
first_core line (x ∷ xs) = grind (arith, first_core line xs)

pub soonest_first : (line : ℕ) (es : List (Option Entry)) → Rises (by_stamp es) → option_map (λ (s : Entry). s.core) (soonest line es) ≡ first_of line (posted_of es)
soonest_first line es r = ap (option_map (λ (s : Entry). s.core)) (fold_sooner line None es r) ∙ first_core line (by_stamp es)

-- ---- how many are ahead

abbrev before_in : ℕ → ℕ → List Entry → ℕ
before_in line n [] = 0
before_in line n (x ∷ xs) = (if (x.line == line) && nat_lt x.stamp n then 1 else 0) + before_in line n xs

before_inserted : (line n : ℕ) (e : Entry) (xs : List Entry) → before_in line n (inserted e xs) ≡ before_in line n (e ∷ xs)
before_inserted line n e [] = refl
before_inserted line n e (x ∷ xs) = grind (arith, before_inserted line n e xs)

count_before : (line n : ℕ) (es : List (Option Entry)) → length (filter (is_before line n) es) ≡ before_in line n (by_stamp es)
count_before line n [] = refl
count_before line n (None ∷ es) = count_before line n es
count_before line n (Some s ∷ es) = grind (arith, count_before line n es, before_inserted line n s (by_stamp es))

none_before : (line n : ℕ) (xs : List Entry) → AreAbove n xs → before_in line n xs ≡ 0
none_before line n [] a = refl
none_before line n (x ∷ xs) a = grind (arith, none_before line n xs a.1, a.0)

core_above : (n c : ℕ) (xs : List Entry) (s : Entry) → AreAbove n xs → core_entry c xs ≡ Some s → n < s.stamp
core_above n c [] s a is = absurd (grind arith)
core_above n c (x ∷ xs) s a is = grind (arith, core_above n c xs s a.1, a.0, is)

ahead_before : (c line : ℕ) (xs : List Entry) (s : Entry) → Rises xs → core_entry c xs ≡ Some s → before_in line s.stamp xs ≡ ahead c line (requests_of xs)
ahead_before c line [] s r is = refl
ahead_before c line (x ∷ xs) s r is = grind (arith, ahead_before c line xs s r.1, none_before line x.stamp xs r.0, core_above x.stamp c xs s r.0, is)

pub count_ahead : (c line : ℕ) (es : List (Option Entry)) (s : Entry) → Rises (by_stamp es) → core_entry c (by_stamp es) ≡ Some s
    → length (filter (is_before line s.stamp) es) ≡ ahead c line (posted_of es)
count_ahead c line es s r is = count_before line s.stamp es ∙ ahead_before c line (by_stamp es) s r is

-- ---- what is queued

any_inserted : (test : Request → Bool) (e : Entry) (xs : List Entry) → list_any test (requests_of (inserted e xs)) ≡ list_any test (requests_of (e ∷ xs))
any_inserted test e [] = refl
any_inserted test e (x ∷ xs) = grind (arith, any_inserted test e xs)

any_posted : (test : Request → Bool) (es : List (Option Entry)) → list_any (meets test) es ≡ list_any test (posted_of es)
any_posted test [] = refl
any_posted test (None ∷ es) = any_posted test es
any_posted test (Some s ∷ es) = grind (arith, any_posted test es, any_inserted test s (by_stamp es))

any_request : (line : ℕ) (rs : List Request) → list_any (λ r. r.line == line) rs ≡ has_request line rs
any_request line [] = refl
any_request line (r ∷ rs) = grind (arith, any_request line rs)

any_write : (line : ℕ) (rs : List Request) → list_any (λ r. (r.line == line) && is_write r.kind) rs ≡ has_write line rs
any_write line [] = refl
any_write line (r ∷ rs) = grind (arith, any_write line rs)

pub queued_all : (line : ℕ) (es : List (Option Entry)) → queued line es ≡ behind_in line (posted_of es)
queued_all line es =
    let request = any_posted (λ r. r.line == line) es ∙ any_request line (posted_of es) in
    let write = any_posted (λ r. (r.line == line) && is_write r.kind) es ∙ any_write line (posted_of es) in
    rw (request, write) refl
