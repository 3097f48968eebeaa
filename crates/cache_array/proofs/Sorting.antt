-- A stable sort of the held lines by falling age gives the lines by age.
use Rattle.std.proofs.Common.{◌≡◌, ◌≢◌, ℕ, zero, suc, ◌+◌, ◌<◌, ◌≤◌, List, [], ◌∷◌, ◌++◌, map, length, take, get_or, Bool, true, false, ◌==◌, nat_cmp, is_lt, refl, sym, ap, ◌∙◌, arith, suc-le-suc, add-one, subst}
use Rattle.std.specs.List.{filter}
use Rattle.std.specs.List.Sorted.{ties, IsSortedBy, IsStableBy}
use Rattle.std.specs.Cmp.{IsStrictWeakOrder}
use Rattle.std.proofs.lemmas.Cmp.{nat_cmp_total}
use Rattle.std.proofs.lemmas.List.Sorted.{ranks_by, IsStrictWeakOrder-flip}
use Rattle.std.proofs.lemmas.Bool.Decides.{nat_tests}
use Rattle.pmsi_model.specs.declared.Mode.{Mode}
use Rattle.pmsi_model.specs.declared.Mode.TheVariants.{Shared}
use Rattle.cache_array.specs.declared.entry.Entry.{Entry}
use Rattle.cache_array.specs.declared.order.AgedLine.{AgedLine}
use Rattle.cache_array.specs.Cache.{held_of}
use Rattle.cache_array.specs.Entries.{inserted, by_age, cached_of}
use Rattle.cache_array.specs.Aged.{aged_line, aged_lines}
use Rattle.cache_array.proofs.ByAge.{Top, Falls, falls}

-- ---- the lines of one age

abbrev of_age : ℕ → List AgedLine → List AgedLine
of_age age ls = filter (λ l. age == l.age) ls

abbrev pub younger : AgedLine → AgedLine → Bool
younger x y = is_lt (nat_cmp y.age x.age)

ties_at : (m n : ℕ) → ties (λ (x y : ℕ). is_lt (nat_cmp y x)) m n ≡ (m == n)
ties_at m n = grind (arith, nat_tests)

stable_age : (xs ys : List AgedLine) (age : ℕ) (line : AgedLine) → IsStableBy younger xs ys → line.age ≡ age → of_age age ys ≡ of_age age xs
stable_age xs ys age line stable same =
    let test : ties younger line ≡ (λ (l : AgedLine). age == l.age) = λ i l. (ties_at line.age l.age ∙ ap (λ (n : ℕ). n == l.age) same) i in
    sym (ap (λ (p : AgedLine → Bool). filter p ys) test) ∙ stable line ∙ ap (λ (p : AgedLine → Bool). filter p xs) test

of_age-inserted : (age : ℕ) (e : Entry) (xs : List Entry) → of_age age (map aged_line (inserted e xs)) ≡ of_age age (aged_line e ∷ map aged_line xs)
of_age-inserted age e [] = refl
of_age-inserted age e (x ∷ xs) = grind (arith, of_age-inserted age e xs)

of_age-by_age : (age : ℕ) (es : List Entry) → of_age age (map aged_line (by_age es)) ≡ of_age age (aged_lines es)
of_age-by_age age [] = refl
of_age-by_age age (e ∷ es) = grind (arith, of_age-by_age age es, of_age-inserted age e (by_age es))

-- ---- ages fall along a list

abbrev AreAtMost : ℕ → List AgedLine → Type 0
AreAtMost n [] = Unit {0}
AreAtMost n (l ∷ ls) = (l.age ≤ n) × AreAtMost n ls

abbrev Fall : List AgedLine → Type 0
Fall [] = Unit {0}
Fall (l ∷ ls) = AreAtMost l.age ls × Fall ls

at_most_more : (m n : ℕ) (ls : List AgedLine) → m ≤ n → AreAtMost m ls → AreAtMost n ls
at_most_more m n [] h a = tt
at_most_more m n (l ∷ ls) h a = (omega (arith, a.0), at_most_more m n ls h a.1)

fall_sorted : (ls : List AgedLine) → ((k : ℕ) (d : AgedLine) → suc k < length ls → (get_or ls (suc k) d).age ≤ (get_or ls k d).age) → Fall ls
fall_sorted [] h = tt
fall_sorted (l ∷ []) h = (tt, tt)
fall_sorted (l ∷ m ∷ ls) h =
    let rest = fall_sorted (m ∷ ls) (λ k d less. h (suc k) d (suc-le-suc less)) in
    let less : m.age ≤ l.age = h zero l (omega arith) in
    ((less, at_most_more m.age l.age ls less rest.0), rest)

at_most_aged : (n : ℕ) (xs : List Entry) → Top n xs → AreAtMost n (map aged_line xs)
at_most_aged n [] t = tt
at_most_aged n (x ∷ xs) t = (t.0, at_most_aged n xs t.1)

fall_aged : (xs : List Entry) → Falls xs → Fall (map aged_line xs)
fall_aged [] f = tt
fall_aged (x ∷ xs) f = (at_most_aged x.age xs f.0, fall_aged xs f.1)

pub younger_first : IsStrictWeakOrder younger
younger_first = IsStrictWeakOrder-flip _ (ranks_by nat_cmp_total (λ (l : AgedLine). l.age))

-- ---- lists whose ages fall are the same where they are at each age

met_at_most : (n age : ℕ) (ls : List AgedLine) (m : AgedLine) (ms : List AgedLine) → AreAtMost n ls → of_age age ls ≡ m ∷ ms → age ≤ n
met_at_most n age [] m ms a e = cc
met_at_most n age (l ∷ ls) m ms a e = grind (arith, met_at_most n age ls m ms a.1, a.0, e)

first_of_age : (l : AgedLine) (ls : List AgedLine) → of_age l.age (l ∷ ls) ≡ l ∷ of_age l.age ls
first_of_age l ls = grind arith

none_left : (age : ℕ) (l : AgedLine) (ls : List AgedLine) → l.age ≡ age → of_age age (l ∷ ls) ≢ []
none_left age l ls same e = grind (arith, same, e)

tails : (age : ℕ) (l m : AgedLine) (ls ms : List AgedLine) → l ≡ m → of_age age (l ∷ ls) ≡ of_age age (m ∷ ms) → of_age age ls ≡ of_age age ms
tails age l m ls ms head same = grind (arith, head, same)

same_by_ages : (ls ms : List AgedLine) → Fall ls → Fall ms → ((age : ℕ) → of_age age ls ≡ of_age age ms) → ls ≡ ms
same_by_ages [] [] left right same = refl
same_by_ages [] (m ∷ ms) left right same = absurd (none_left m.age m ms refl (sym (same m.age)))
same_by_ages (l ∷ ls) [] left right same = absurd (none_left l.age l ls refl (same l.age))
same_by_ages (l ∷ ls) (m ∷ ms) left right same =
    let up : l.age ≤ m.age = met_at_most m.age l.age (m ∷ ms) l (of_age l.age ls) (omega arith, right.0) (sym (same l.age) ∙ first_of_age l ls) in
    let down : m.age ≤ l.age = met_at_most l.age m.age (l ∷ ls) m (of_age m.age ms) (omega arith, left.0) (same m.age ∙ first_of_age m ms) in
    let age : l.age ≡ m.age = omega arith in
    let heads : l ∷ of_age l.age ls ≡ m ∷ of_age m.age ms = sym (first_of_age l ls) ∙ same l.age ∙ ap (λ (a : ℕ). of_age a (m ∷ ms)) age ∙ first_of_age m ms in
    let head : l ≡ m = cc in
    let rest : ls ≡ ms = same_by_ages ls ms left.1 right.1 (λ a. tails a l m ls ms head (same a)) in
    ap (λ (x : AgedLine). x ∷ ls) head ∙ ap (λ (xs : List AgedLine). m ∷ xs) rest

not_younger : (m n : ℕ) → is_lt (nat_cmp m n) ≡ false → n ≤ m
not_younger m n h = grind (arith, nat_tests, h)

pub sorted_is_by_age : (es : List Entry) (ys : List AgedLine) → IsSortedBy younger ys → IsStableBy younger (aged_lines es) ys → ys ≡ map aged_line (by_age es)
sorted_is_by_age es ys sorted stable =
    same_by_ages ys (map aged_line (by_age es))
    (fall_sorted ys (λ k d less. subst (λ (n : ℕ). (get_or ys n d).age ≤ (get_or ys k d).age) (add-one k) (not_younger (get_or ys k d).age (get_or ys (k + 1) d).age (sorted k d (omega arith) (omega (arith, less))))))
    (fall_aged (by_age es) (falls es))
    (λ age. stable_age (aged_lines es) ys age (record { age = age; line = 0; mode = Shared }) stable refl ∙ sym (of_age-by_age age es))

-- ---- without their ages

pub lines_aged : (xs : List Entry) → map (λ (a : AgedLine). (a.line, a.mode)) (map aged_line xs) ≡ held_of (cached_of xs)
lines_aged [] = refl
lines_aged (x ∷ xs) = ap (λ (hs : List (ℕ × Mode)). (x.cached.line, x.cached.mode) ∷ hs) (lines_aged xs)

-- one more entry that holds a line, and one that holds none
pub aged_more : (i : ℕ) (es : List Entry) (x : Entry) → i < length es → x ≡ get_or es i x → x.held ≡ true → aged_lines (take (suc i) es) ≡ aged_lines (take i es) ++ aged_line x ∷ []
aged_more i [] x less here held = absurd (omega arith)
aged_more zero (e ∷ es) x less here held = grind (arith, here, held)
aged_more (suc i) (e ∷ es) x less here held = grind (arith, aged_more i es x (omega arith) here held)

pub aged_same : (i : ℕ) (es : List Entry) (x : Entry) → i < length es → x ≡ get_or es i x → x.held ≡ false → aged_lines (take (suc i) es) ≡ aged_lines (take i es)
aged_same i [] x less here free = absurd (omega arith)
aged_same zero (e ∷ es) x less here free = grind (arith, here, free)
aged_same (suc i) (e ∷ es) x less here free = grind (arith, aged_same i es x (omega arith) here free)
