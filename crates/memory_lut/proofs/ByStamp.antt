-- The requests of the table, by rising stamp.
use Rattle.std.proofs.Common.{◌≡◌, ℕ, zero, suc, ◌+◌, ◌<◌, ◌≤◌, List, [], ◌∷◌, get_or, Option, Some, None, ◌==◌, if◌then◌else◌, option_map, refl, ap, ◌∙◌, arith}
use Rattle.pmsi_model.specs.Machine.{request_of}
use Rattle.memory_lut.specs.declared.entry.Entry.{Entry}
use Rattle.memory_lut.specs.Table.{inserted, by_stamp, request_at, requests_of, posted_of, IsPlaced, AreAbove, Rises, StampsBelow, IsTable}

-- ---- stamps rise

above_rest : (n : ℕ) (e : Entry) (xs : List Entry) → AreAbove n (inserted e xs) → (n < e.stamp) × AreAbove n xs
above_rest n e [] a = (a.0, tt)
above_rest n e (x ∷ xs) a = let r = above_rest n e xs in (grind (arith, r), grind (arith, r))

pub rises_rest : (e : Entry) (xs : List Entry) → Rises (inserted e xs) → Rises xs
rises_rest e [] r = tt
rises_rest e (x ∷ xs) r = grind (arith, rises_rest e xs, above_rest x.stamp e xs)

pub inserted_first : (e : Entry) (xs : List Entry) → AreAbove e.stamp xs → inserted e xs ≡ e ∷ xs
inserted_first e [] a = refl
inserted_first e (x ∷ xs) a = grind (arith, a.0)

pub above_more : (m n : ℕ) (xs : List Entry) → m ≤ n → AreAbove n xs → AreAbove m xs
above_more m n [] h a = tt
above_more m n (x ∷ xs) h a = (omega (arith, a.0), above_more m n xs h a.1)

-- ---- the request of a core

abbrev pub core_entry : ℕ → List Entry → Option Entry
core_entry c [] = None
core_entry c (x ∷ xs) = if x.core == c then Some x else core_entry c xs

pub request_entry : (c : ℕ) (xs : List Entry) → request_of c (requests_of xs) ≡ option_map request_at (core_entry c xs)
request_entry c [] = refl
request_entry c (x ∷ xs) = grind (arith, request_entry c xs)

core_inserted : (c : ℕ) (e : Entry) (xs : List Entry) → (e.core ≡ c → core_entry c xs ≡ None)
    → core_entry c (inserted e xs) ≡ (if e.core == c then Some e else core_entry c xs)
core_inserted c e [] absent = refl
core_inserted c e (x ∷ xs) absent = grind (arith, core_inserted c e xs)

-- no request of a core that is below those of the entries
pub core_absent : (n c : ℕ) (es : List (Option Entry)) → IsPlaced n es → c < n → core_entry c (by_stamp es) ≡ None
core_absent n c [] p h = refl
core_absent n c (None ∷ es) p h = core_absent (n + 1) c es p (omega (arith, h))
core_absent n c (Some s ∷ es) p h = grind (arith, core_absent (n + 1) c es p.1 (omega (arith, h)), core_inserted c s (by_stamp es), p.0, h)

-- a core's request stands in its entry
pub core_placed : (n c i : ℕ) (es : List (Option Entry)) → n + i ≡ c → IsPlaced n es → core_entry c (by_stamp es) ≡ get_or es i None
core_placed n c i [] e p = refl
core_placed n c zero (None ∷ es) e p = core_absent (n + 1) c es p (omega (arith, e))
core_placed n c zero (Some s ∷ es) e p = grind (arith, core_absent (n + 1) c es p.1 (omega (arith, e)), core_inserted c s (by_stamp es), p.0, e)
core_placed n c (suc i) (None ∷ es) e p = core_placed (n + 1) c i es (omega (arith, e)) p
core_placed n c (suc i) (Some s ∷ es) e p = grind (arith, core_placed (n + 1) c i es (omega (arith, e)) p.1, core_inserted c s (by_stamp es), p.0, e)

pub entry_found : (next c : ℕ) (es : List (Option Entry)) (o : Option Entry) → IsTable next es → get_or es c None ≡ o → core_entry c (by_stamp es) ≡ o
entry_found next c es o t is = core_placed 0 c c es (omega arith) t.placed ∙ is

pub request_found : (next c : ℕ) (es : List (Option Entry)) (o : Option Entry) → IsTable next es → get_or es c None ≡ o → request_of c (posted_of es) ≡ option_map request_at o
request_found next c es o t is = request_entry c (by_stamp es) ∙ ap (option_map request_at) (entry_found next c es o t is)

stamp_below : (n i : ℕ) (es : List (Option Entry)) (s : Entry) → StampsBelow n es → get_or es i None ≡ Some s → s.stamp < n
stamp_below n i [] s b is = absurd cc
stamp_below n zero (None ∷ es) s b is = absurd cc
stamp_below n zero (Some x ∷ es) s b is = grind (arith, b.0, is)
stamp_below n (suc i) (None ∷ es) s b is = stamp_below n i es s b is
stamp_below n (suc i) (Some x ∷ es) s b is = stamp_below n i es s b.1 is
