-- What a change of an entry does to the requests by rising stamp.
use Rattle.std.proofs.Common.{◌≡◌, ◌≢◌, ℕ, zero, suc, ◌+◌, ◌<◌, ◌≤◌, List, [], ◌∷◌, ◌++◌, get_or, set, length, length-set, replicate, Option, Some, None, not, ◌==◌, option_map, refl, sym, ap, ◌∙◌, arith}
use Rattle.std.specs.List.{filter}
use Rattle.std.proofs.lemmas.List.{length-replicate}
use Rattle.pmsi_model.specs.declared.limits.TheConstants.{MAX_CORES}
use Rattle.pmsi_model.specs.Machine.{Request, request_of, removed}
use Rattle.memory_lut.specs.declared.entry.Entry.{Entry}
use Rattle.memory_lut.specs.Table.{inserted, by_stamp, request_at, requests_of, posted_of, table_of, IsPlaced, StampsBelow, AreAbove, Rises, IsTable, last_stamp}
use Rattle.memory_lut.proofs.ByStamp.{rises_rest, inserted_first, above_more, core_entry, request_entry, core_absent, core_placed}

-- ---- a request leaves

abbrev without_core : ℕ → List Entry → List Entry
without_core c xs = filter (λ x. not (x.core == c)) xs

above_without : (n c : ℕ) (xs : List Entry) → AreAbove n xs → AreAbove n (without_core c xs)
above_without n c [] a = tt
above_without n c (x ∷ xs) a = grind (arith, above_without n c xs a.1, a.0)

rises_without : (c : ℕ) (xs : List Entry) → Rises xs → Rises (without_core c xs)
rises_without c [] r = tt
rises_without c (x ∷ xs) r = grind (arith, rises_without c xs r.1, above_without x.stamp c xs r.0)

without_absent : (c : ℕ) (xs : List Entry) → core_entry c xs ≡ None → without_core c xs ≡ xs
without_absent c [] none = refl
without_absent c (x ∷ xs) none = grind (arith, without_absent c xs)

without_mine : (c : ℕ) (e : Entry) (xs : List Entry) → e.core ≡ c → without_core c (inserted e xs) ≡ without_core c xs
without_mine c e [] same = grind arith
without_mine c e (x ∷ xs) same = grind (arith, without_mine c e xs same)

without_inserted : (c : ℕ) (e : Entry) (xs : List Entry) → Rises xs → e.core ≢ c → without_core c (inserted e xs) ≡ inserted e (without_core c xs)
without_inserted c e [] r other = grind arith
without_inserted c e (x ∷ xs) r other =
    grind (arith, without_inserted c e xs r.1 other, above_without x.stamp c xs r.0, above_more e.stamp x.stamp (without_core c xs), inserted_first e (without_core c xs))

emptied : (n c i : ℕ) (es : List (Option Entry)) → n + i ≡ c → IsPlaced n es → Rises (by_stamp es) → by_stamp (set es i None) ≡ without_core c (by_stamp es)
emptied n c i [] e p r = refl
emptied n c zero (None ∷ es) e p r = sym (without_absent c (by_stamp es) (core_absent (n + 1) c es p (omega (arith, e))))
emptied n c zero (Some s ∷ es) e p r =
    grind (arith, without_mine c s (by_stamp es), without_absent c (by_stamp es), core_absent (n + 1) c es p.1 (omega (arith, e)), p.0, e)
emptied n c (suc i) (None ∷ es) e p r = emptied (n + 1) c i es (omega (arith, e)) p r
emptied n c (suc i) (Some s ∷ es) e p r =
    let rest = rises_rest s (by_stamp es) r in
    grind (arith, emptied (n + 1) c i es (omega (arith, e)) p.1 rest, without_inserted c s (by_stamp es) rest, p.0, e)

requests_without : (c : ℕ) (xs : List Entry) → requests_of (without_core c xs) ≡ removed c (requests_of xs)
requests_without c [] = refl
requests_without c (x ∷ xs) = grind (arith, requests_without c xs)

placed_emptied : (n i : ℕ) (es : List (Option Entry)) → IsPlaced n es → IsPlaced n (set es i None)
placed_emptied n i [] p = p
placed_emptied n zero (None ∷ es) p = p
placed_emptied n zero (Some s ∷ es) p = p.1
placed_emptied n (suc i) (None ∷ es) p = placed_emptied (n + 1) i es p
placed_emptied n (suc i) (Some s ∷ es) p = (p.0, placed_emptied (n + 1) i es p.1)

below_emptied : (n i : ℕ) (es : List (Option Entry)) → StampsBelow n es → StampsBelow n (set es i None)
below_emptied n i [] b = b
below_emptied n zero (None ∷ es) b = b
below_emptied n zero (Some s ∷ es) b = b.1
below_emptied n (suc i) (None ∷ es) b = below_emptied n i es b
below_emptied n (suc i) (Some s ∷ es) b = (b.0, below_emptied n i es b.1)

pub table_emptied : (next c : ℕ) (es : List (Option Entry)) → IsTable next es → table_of (set es c None) ≡ record { cores = length es; posted = removed c (posted_of es) }
table_emptied next c es t =
    let posted = ap requests_of (emptied 0 c c es (omega arith) t.placed t.rises) ∙ requests_without c (by_stamp es) in
    rw (posted, length-set) refl

pub IsTable-emptied : (next c : ℕ) (es : List (Option Entry)) → IsTable next es → IsTable next (set es c None)
IsTable-emptied next c es t = record {
  placed = placed_emptied 0 c es t.placed;
  rises = rw (emptied 0 c c es (omega arith) t.placed t.rises) (rises_without c (by_stamp es) t.rises);
  below = below_emptied next c es t.below;
  within = t.within;
  few = rw length-set t.few;
}

-- ---- a request arrives

abbrev AreBelow : ℕ → List Entry → Type 0
AreBelow n [] = Unit {0}
AreBelow n (x ∷ xs) = (x.stamp < n) × AreBelow n xs

below_inserted : (n : ℕ) (e : Entry) (xs : List Entry) → e.stamp < n → AreBelow n xs → AreBelow n (inserted e xs)
below_inserted n e [] h b = (h, tt)
below_inserted n e (x ∷ xs) h b = grind (arith, below_inserted n e xs h b.1, b, h)

below_all : (n : ℕ) (es : List (Option Entry)) → StampsBelow n es → AreBelow n (by_stamp es)
below_all n [] b = tt
below_all n (None ∷ es) b = below_all n es b
below_all n (Some s ∷ es) b = below_inserted n s (by_stamp es) b.0 (below_all n es b.1)

inserted_last : (e : Entry) (xs : List Entry) → AreBelow e.stamp xs → inserted e xs ≡ xs ++ e ∷ []
inserted_last e [] b = refl
inserted_last e (x ∷ xs) b = grind (arith, inserted_last e xs b.1, b.0)

inserted_more : (x e : Entry) (xs : List Entry) → x.stamp < e.stamp → inserted x (xs ++ e ∷ []) ≡ inserted x xs ++ e ∷ []
inserted_more x e [] h = grind (arith, h)
inserted_more x e (y ∷ xs) h = grind (arith, inserted_more x e xs h)

above_last : (n : ℕ) (e : Entry) (xs : List Entry) → AreAbove n xs → n < e.stamp → AreAbove n (xs ++ e ∷ [])
above_last n e [] a h = (h, tt)
above_last n e (x ∷ xs) a h = (a.0, above_last n e xs a.1 h)

rises_last : (e : Entry) (xs : List Entry) → Rises xs → AreBelow e.stamp xs → Rises (xs ++ e ∷ [])
rises_last e [] r b = (tt, tt)
rises_last e (x ∷ xs) r b = (above_last x.stamp e xs r.0 b.0, rises_last e xs r.1 b.1)

filled : (i : ℕ) (e : Entry) (es : List (Option Entry)) → i < length es → get_or es i None ≡ None → StampsBelow e.stamp es → by_stamp (set es i (Some e)) ≡ by_stamp es ++ e ∷ []
filled i e [] h free b = absurd (omega arith)
filled zero e (None ∷ es) h free b = inserted_last e (by_stamp es) (below_all e.stamp es b)
filled zero e (Some s ∷ es) h free b = absurd (grind (arith, free))
filled (suc i) e (None ∷ es) h free b = filled i e es (omega arith) free b
filled (suc i) e (Some s ∷ es) h free b = grind (arith, filled i e es (omega arith) free b.1, inserted_more s e (by_stamp es) b.0)

requests_last : (e : Entry) (xs : List Entry) → requests_of (xs ++ e ∷ []) ≡ requests_of xs ++ request_at e ∷ []
requests_last e [] = refl
requests_last e (x ∷ xs) = ap (λ (rs : List Request). request_at x ∷ rs) (requests_last e xs)

placed_filled : (n c i : ℕ) (e : Entry) (es : List (Option Entry)) → n + i ≡ c → e.core ≡ c → IsPlaced n es → IsPlaced n (set es i (Some e))
placed_filled n c i e [] at own p = p
placed_filled n c zero e (None ∷ es) at own p = (omega (arith, at, own), p)
placed_filled n c zero e (Some s ∷ es) at own p = (omega (arith, at, own), p.1)
placed_filled n c (suc i) e (None ∷ es) at own p = placed_filled (n + 1) c i e es (omega (arith, at)) own p
placed_filled n c (suc i) e (Some s ∷ es) at own p = (p.0, placed_filled (n + 1) c i e es (omega (arith, at)) own p.1)

below_next : (n : ℕ) (es : List (Option Entry)) → StampsBelow n es → StampsBelow (n + 1) es
below_next n [] b = tt
below_next n (None ∷ es) b = below_next n es b
below_next n (Some s ∷ es) b = (omega (arith, b.0), below_next n es b.1)

below_filled : (n i : ℕ) (e : Entry) (es : List (Option Entry)) → e.stamp ≡ n → StampsBelow n es → StampsBelow (n + 1) (set es i (Some e))
below_filled n i e [] same b = tt
below_filled n zero e (None ∷ es) same b = (omega (arith, same), below_next n es b)
below_filled n zero e (Some s ∷ es) same b = (omega (arith, same), below_next n es b.1)
below_filled n (suc i) e (None ∷ es) same b = below_filled n i e es same b
below_filled n (suc i) e (Some s ∷ es) same b = (omega (arith, b.0), below_filled n i e es same b.1)

no_entry : (o : Option Entry) → option_map request_at o ≡ None → o ≡ None
no_entry None none = refl
no_entry (Some s) none = absurd cc

-- the entry of a core that has no request
entry_free : (next c : ℕ) (es : List (Option Entry)) → IsTable next es → request_of c (posted_of es) ≡ None → get_or es c None ≡ None
entry_free next c es t none =
    let is = sym (core_placed 0 c c es (omega arith) t.placed) in
    is ∙ no_entry (core_entry c (by_stamp es)) (sym (request_entry c (by_stamp es)) ∙ none)

pub table_filled : (c : ℕ) (e : Entry) (es : List (Option Entry)) → c < length es → IsTable e.stamp es → request_of c (posted_of es) ≡ None
    → table_of (set es c (Some e)) ≡ record { cores = length es; posted = posted_of es ++ request_at e ∷ [] }
table_filled c e es h t none =
    let posted = ap requests_of (filled c e es h (entry_free e.stamp c es t none) t.below) ∙ requests_last e (by_stamp es) in
    rw (posted, length-set) refl

pub IsTable-filled : (c : ℕ) (e : Entry) (es : List (Option Entry)) → c < length es → e.core ≡ c → e.stamp < last_stamp → IsTable e.stamp es → request_of c (posted_of es) ≡ None
    → IsTable (e.stamp + 1) (set es c (Some e))
IsTable-filled c e es h own more t none = record {
  placed = placed_filled 0 c c e es (omega arith) own t.placed;
  rises = rw (filled c e es h (entry_free e.stamp c es t none) t.below) (rises_last e (by_stamp es) t.rises (below_all e.stamp es t.below));
  below = below_filled e.stamp c e es refl t.below;
  within = omega (arith, more);
  few = rw length-set t.few;
}

-- ---- a table without requests

none_placed : (n count : ℕ) → IsPlaced n (replicate count None)
none_placed n zero = tt
none_placed n (suc count) = none_placed (n + 1) count

none_below : (n count : ℕ) → StampsBelow n (replicate count None)
none_below n zero = tt
none_below n (suc count) = none_below n count

none_stand : (count : ℕ) → by_stamp (replicate count None) ≡ []
none_stand zero = refl
none_stand (suc count) = none_stand count

pub IsTable-none : (count : ℕ) (es : List (Option Entry)) → count ≤ MAX_CORES → es ≡ replicate count None → IsTable 0 es
IsTable-none count es few is = rw is (record {
  placed = none_placed 0 count;
  rises = rw (none_stand count) tt;
  below = none_below 0 count;
  within = omega arith;
  few = rw length-replicate few;
})

pub table_none : (count : ℕ) (es : List (Option Entry)) → es ≡ replicate count None → table_of es ≡ record { cores = count; posted = [] }
table_none count es is = rw is (rw (none_stand count, length-replicate) refl)
