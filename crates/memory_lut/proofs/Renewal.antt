-- The requests get new stamps, in their order.
use Rattle.std.proofs.Common.{◌≡◌, ℕ, ◌+◌, ◌<◌, ◌≤◌, List, [], ◌∷◌, map, Option, Some, None, Bool, true, false, ◌==◌, ◌||◌, refl, ap, ◌∙◌, arith}
use Rattle.std.proofs.lemmas.List.{length-map}
use Rattle.memory_lut.specs.declared.entry.Entry.{Entry}
use Rattle.memory_lut.specs.Table.{inserted, by_stamp, request_at, requests_of, posted_of, IsPlaced, StampsBelow, AreAbove, Rises, IsTable, rank, ranked, ranked_entry, last_stamp}

-- ---- ranks

abbrev has_stamp : ℕ → List (Option Entry) → Bool
has_stamp n [] = false
has_stamp n (None ∷ es) = has_stamp n es
has_stamp n (Some s ∷ es) = (s.stamp == n) || has_stamp n es

rank_weak : (m n : ℕ) (es : List (Option Entry)) → m ≤ n → rank es m ≤ rank es n
rank_weak m n [] h = omega arith
rank_weak m n (None ∷ es) h = rank_weak m n es h
rank_weak m n (Some s ∷ es) h = grind (arith, rank_weak m n es h)

rank_strict : (m n : ℕ) (es : List (Option Entry)) → has_stamp m es ≡ true → m < n → rank es m < rank es n
rank_strict m n [] has h = absurd cc
rank_strict m n (None ∷ es) has h = rank_strict m n es has h
rank_strict m n (Some s ∷ es) has h = grind (arith, rank_strict m n es, rank_weak m n es (omega arith))

-- ---- each stamp of a list is one of a table's

abbrev AreOf : List (Option Entry) → List Entry → Type 0
AreOf es [] = Unit {0}
AreOf es (x ∷ xs) = (has_stamp x.stamp es ≡ true) × AreOf es xs

of_inserted : (es : List (Option Entry)) (e : Entry) (xs : List Entry) → has_stamp e.stamp es ≡ true → AreOf es xs → AreOf es (inserted e xs)
of_inserted es e [] h a = (h, tt)
of_inserted es e (x ∷ xs) h a = grind (arith, of_inserted es e xs h a.1, a, h)

of_more : (o : Option Entry) (es : List (Option Entry)) (xs : List Entry) → AreOf es xs → AreOf (o ∷ es) xs
of_more o es [] a = tt
of_more None es (x ∷ xs) a = (a.0, of_more None es xs a.1)
of_more (Some s) es (x ∷ xs) a = (grind (arith, a.0), of_more (Some s) es xs a.1)

of_all : (es : List (Option Entry)) → AreOf es (by_stamp es)
of_all [] = tt
of_all (None ∷ es) = of_more None es (by_stamp es) (of_all es)
of_all (Some s ∷ es) = of_inserted (Some s ∷ es) s (by_stamp es) (grind arith) (of_more (Some s) es (by_stamp es) (of_all es))

of_rest : (es : List (Option Entry)) (e : Entry) (xs : List Entry) → AreOf es (inserted e xs) → (has_stamp e.stamp es ≡ true) × AreOf es xs
of_rest es e [] a = (a.0, tt)
of_rest es e (x ∷ xs) a = let r = of_rest es e xs in (grind (arith, r), grind (arith, r))

-- ---- the order stays

inserted_ranked : (es : List (Option Entry)) (e : Entry) (xs : List Entry) → AreOf es xs → inserted (ranked es e) (map (ranked es) xs) ≡ map (ranked es) (inserted e xs)
inserted_ranked es e [] a = refl
inserted_ranked es e (x ∷ xs) a = grind (arith, inserted_ranked es e xs a.1, rank_weak e.stamp x.stamp es, rank_strict x.stamp e.stamp es a.0)

by_stamp-ranked : (all es : List (Option Entry)) → AreOf all (by_stamp es) → by_stamp (map (ranked_entry all) es) ≡ map (ranked all) (by_stamp es)
by_stamp-ranked all [] a = refl
by_stamp-ranked all (None ∷ es) a = by_stamp-ranked all es a
by_stamp-ranked all (Some s ∷ es) a =
    let rest = (of_rest all s (by_stamp es) a).1 in
    ap (inserted (ranked all s)) (by_stamp-ranked all es rest) ∙ inserted_ranked all s (by_stamp es) rest

requests_ranked : (all : List (Option Entry)) (xs : List Entry) → requests_of (map (ranked all) xs) ≡ requests_of xs
requests_ranked all [] = refl
requests_ranked all (x ∷ xs) = ap (λ (rs : List _). request_at x ∷ rs) (requests_ranked all xs)

above_ranked : (all : List (Option Entry)) (n : ℕ) (xs : List Entry) → has_stamp n all ≡ true → AreAbove n xs → AreAbove (rank all n) (map (ranked all) xs)
above_ranked all n [] has a = tt
above_ranked all n (x ∷ xs) has a = (rank_strict n x.stamp all has a.0, above_ranked all n xs has a.1)

rises_ranked : (all : List (Option Entry)) (xs : List Entry) → AreOf all xs → Rises xs → Rises (map (ranked all) xs)
rises_ranked all [] a r = tt
rises_ranked all (x ∷ xs) a r = (above_ranked all x.stamp xs a.0 r.0, rises_ranked all xs a.1 r.1)

placed_ranked : (all : List (Option Entry)) (n : ℕ) (es : List (Option Entry)) → IsPlaced n es → IsPlaced n (map (ranked_entry all) es)
placed_ranked all n [] p = tt
placed_ranked all n (None ∷ es) p = placed_ranked all (n + 1) es p
placed_ranked all n (Some s ∷ es) p = (p.0, placed_ranked all (n + 1) es p.1)

below_ranked : (all : List (Option Entry)) (n : ℕ) (es : List (Option Entry)) → AreOf all (by_stamp es) → StampsBelow n es → StampsBelow (rank all n) (map (ranked_entry all) es)
below_ranked all n [] a b = tt
below_ranked all n (None ∷ es) a b = below_ranked all n es a b
below_ranked all n (Some s ∷ es) a b =
    let r = of_rest all s (by_stamp es) a in (rank_strict s.stamp n all r.0 b.0, below_ranked all n es r.1 b.1)

pub posted_ranked : (es : List (Option Entry)) → posted_of (map (ranked_entry es) es) ≡ posted_of es
posted_ranked es = ap requests_of (by_stamp-ranked es es (of_all es)) ∙ requests_ranked es (by_stamp es)

pub IsTable-ranked : (next : ℕ) (es : List (Option Entry)) → rank es next ≤ last_stamp → IsTable next es → IsTable (rank es next) (map (ranked_entry es) es)
IsTable-ranked next es few t = record {
  placed = placed_ranked es 0 es t.placed;
  rises = rw (by_stamp-ranked es es (of_all es)) (rises_ranked es (by_stamp es) (of_all es) t.rises);
  below = below_ranked es next es (of_all es) t.below;
  within = few;
  few = rw length-map t.few;
}
