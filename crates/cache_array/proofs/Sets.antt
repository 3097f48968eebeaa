-- The lines of one set are those of its entries.
use Rattle.std.proofs.Common.{◌≡◌, ◌≢◌, ℕ, zero, suc, ◌+◌, ◌-◌, ◌*◌, ◌/◌, ◌%◌, ◌<◌, ◌≤◌, List, [], ◌∷◌, length, take, drop, get_or, Option, Some, None, true, false, not, ◌==◌, ◌&&◌, ◌||◌, nat_le, if◌then◌else◌, refl, sym, ap, ◌∙◌, subst, arith}
use Rattle.std.specs.List.{filter, fold, position, position_or_len, last_or}
use Rattle.std.specs.Option.{option_map}
use Rattle.std.proofs.lemmas.List.{length-map, length-drop, get_or-drop, get_or-take, length-take-le}
use Rattle.std.proofs.lemmas.Nat.{div-mul-add, mod-mul-add}
use Rattle.pmsi_model.specs.declared.job.Geometry.{Geometry}
use Rattle.pmsi_model.specs.declared.Mode.{Mode}
use Rattle.pmsi_model.specs.Geometry.{set_of}
use Rattle.pmsi_model.specs.Phase.{set_lines, evicted}
use Rattle.cache_array.specs.declared.line.CachedLine.{CachedLine}
use Rattle.cache_array.specs.declared.entry.Entry.{Entry}
use Rattle.cache_array.specs.Cache.{held_of, way_for, is_taken, free_from}
use Rattle.cache_array.specs.Entries.{inserted, by_age, cached_of, lines_of, has_line, StandsAt, PutsAt, IsPlaced, older, oldest_of}
use Rattle.cache_array.proofs.ByAge.{Top, Falls, top_more, falls, inserted_first, absent_entry, absent_mode, absent_alone, entry_at}
use Rattle.cache_array.proofs.Lines.{mode_of-entry}
use Rattle.cache_array.proofs.Stands.{placed-drop, placed_at, before_set, after_set, takes, position_within, position_some}

-- ---- the entries of a set among those by age

abbrev in_set : Geometry → ℕ → List Entry → List Entry
in_set shape set xs = filter (λ e. set_of shape e.cached.line == set) xs

set_lines-cached : (shape : Geometry) (line : ℕ) (xs : List Entry) → set_lines shape line (held_of (cached_of xs)) ≡ held_of (cached_of (in_set shape (set_of shape line) xs))
set_lines-cached shape line [] = refl
set_lines-cached shape line (x ∷ xs) = grind (arith, set_lines-cached shape line xs)

top-set : (n : ℕ) (shape : Geometry) (set : ℕ) (xs : List Entry) → Top n xs → Top n (in_set shape set xs)
top-set n shape set [] t = tt
top-set n shape set (x ∷ xs) t = grind (arith, top-set n shape set xs t.1, t.0)

set-kept : (shape : Geometry) (set : ℕ) (e : Entry) (xs : List Entry) → Falls xs → set_of shape e.cached.line ≡ set → in_set shape set (inserted e xs) ≡ inserted e (in_set shape set xs)
set-kept shape set e [] f same = grind arith
set-kept shape set e (x ∷ xs) f same = grind (arith, set-kept shape set e xs f.1 same, f, top-set x.age shape set xs f.0, top_more x.age e.age (in_set shape set xs), inserted_first e (in_set shape set xs))

set-lost : (shape : Geometry) (set : ℕ) (e : Entry) (xs : List Entry) → set_of shape e.cached.line ≢ set → in_set shape set (inserted e xs) ≡ in_set shape set xs
set-lost shape set e [] other = grind arith
set-lost shape set e (x ∷ xs) other = grind (arith, set-lost shape set e xs other)

set_before : (shape : Geometry) (set k m : ℕ) (es : List Entry) → IsPlaced shape m es → ((i : ℕ) → m ≤ i → i < m + k → i / shape.ways ≢ set) → in_set shape set (by_age es) ≡ in_set shape set (by_age (drop k es))
set_before shape set zero m es p away = refl
set_before shape set (suc k) m [] p away = refl
set_before shape set (suc k) m (e ∷ es) p away =
    let rest = set_before shape set k (m + 1) es p.2 (λ i above below. away i (omega arith) (omega arith)) in
    let here : m / shape.ways ≢ set = away m (omega arith) (omega arith) in
    grind (arith, rest, here, p.0, set-lost shape set e (by_age es))

set_outside : (shape : Geometry) (set m : ℕ) (es : List Entry) → IsPlaced shape m es → ((i : ℕ) → m ≤ i → i / shape.ways ≢ set) → in_set shape set (by_age es) ≡ []
set_outside shape set m [] p away = refl
set_outside shape set m (e ∷ es) p away =
    let rest = set_outside shape set (m + 1) es p.2 (λ i above. away i (omega arith)) in
    let here : m / shape.ways ≢ set = away m (omega arith) in
    grind (arith, rest, here, p.0, set-lost shape set e (by_age es))

set_inside : (shape : Geometry) (set k m : ℕ) (es : List Entry) → IsPlaced shape m es → ((i : ℕ) → m ≤ i → i < m + k → i / shape.ways ≡ set) → in_set shape set (by_age (drop k es)) ≡ []
    → in_set shape set (by_age es) ≡ by_age (take k es)
set_inside shape set zero m es p within none = none
set_inside shape set (suc k) m [] p within none = refl
set_inside shape set (suc k) m (e ∷ es) p within none =
    let rest = set_inside shape set k (m + 1) es p.2 (λ i above below. within i (omega arith) (omega arith)) none in
    let here : m / shape.ways ≡ set = within m (omega arith) (omega arith) in
    grind (arith, rest, here, p.0, set-kept shape set e (by_age es) (falls es))

div_in_set : (s w i : ℕ) → s * w ≤ i → i < s * w + w → i / w ≡ s
div_in_set s w i above below =
    let e : s * w + (i - s * w) ≡ i = omega arith in
    subst (λ (j : ℕ). j / w ≡ s) e (div-mul-add s w (i - s * w) (omega arith))

set_of_array : (shape : Geometry) (set first : ℕ) (es : List Entry) → 1 ≤ shape.ways → first ≡ set * shape.ways → IsPlaced shape 0 es
    → in_set shape set (by_age es) ≡ by_age (take shape.ways (drop first es))
set_of_array shape set first es some e p =
    let at : IsPlaced shape first (drop first es) = placed-drop shape 0 first first es (omega arith) p in
    let past : IsPlaced shape (first + shape.ways) (drop shape.ways (drop first es)) = placed-drop shape first shape.ways (first + shape.ways) (drop first es) refl at in
    set_before shape set first 0 es p (λ i above below. before_set set shape.ways i (omega arith))
    ∙ set_inside shape set shape.ways first (drop first es) at (λ i above below. div_in_set set shape.ways i (omega arith) (omega arith))
    (set_outside shape set (first + shape.ways) (drop shape.ways (drop first es)) past (λ i above. after_set set shape.ways i some (omega arith)))

pub lines_of_set : (shape : Geometry) (line first : ℕ) (es : List Entry) → 1 ≤ shape.ways → first ≡ set_of shape line * shape.ways → IsPlaced shape 0 es
    → set_lines shape line (held_of (lines_of es)) ≡ held_of (lines_of (take shape.ways (drop first es)))
lines_of_set shape line first es some e p = set_lines-cached shape line (by_age es) ∙ ap (λ (xs : List Entry). held_of (cached_of xs)) (set_of_array shape (set_of shape line) first es some e p)

-- ---- how many lines a set holds

length-inserted : (e : Entry) (xs : List Entry) → length (inserted e xs) ≡ 1 + length xs
length-inserted e [] = refl
length-inserted e (x ∷ xs) = grind (arith, length-inserted e xs)

at_most : (es : List Entry) → length (by_age es) ≤ length es
at_most [] = omega arith
at_most (e ∷ es) = grind (arith, at_most es, length-inserted e (by_age es))

abbrev AllHeld : List Entry → Type 0
AllHeld [] = Unit {0}
AllHeld (e ∷ es) = (e.held ≡ true) × AllHeld es

all_held : (es : List Entry) → length es ≤ position_or_len (λ e. not e.held) es → AllHeld es
all_held [] h = tt
all_held (e ∷ es) h = grind (arith, all_held es)

full : (es : List Entry) → AllHeld es → length (by_age es) ≡ length es
full [] a = refl
full (e ∷ es) a = grind (arith, full es a.1, a.0, length-inserted e (by_age es))

not_full : (es : List Entry) → position_or_len (λ e. not e.held) es < length es → length (by_age es) < length es
not_full [] h = absurd (omega arith)
not_full (e ∷ es) h = grind (arith, not_full es, at_most es, length-inserted e (by_age es))

length-held : (xs : List Entry) → length (held_of (cached_of xs)) ≡ length xs
length-held xs = length-map (cached_of xs) (λ (l : CachedLine). (l.line, l.mode)) ∙ length-map xs (λ (e : Entry). e.cached)

length-slice : (shape : Geometry) (first : ℕ) (es : List Entry) → first + shape.ways ≤ length es → length (take shape.ways (drop first es)) ≡ shape.ways
length-slice shape first es h = length-take-le shape.ways (drop first es) (let r = length-drop first es in omega arith)

-- ---- the oldest of a set

abbrev last_aged : Option (ℕ × ℕ) → List Entry → Option (ℕ × ℕ)
last_aged o [] = o
last_aged o (x ∷ xs) = last_aged (Some (x.age, x.cached.line)) xs

abbrev joined : Entry → Option (ℕ × ℕ) → Option (ℕ × ℕ)
joined e None = Some (e.age, e.cached.line)
joined e (Some l) = if nat_le l.0 e.age then Some l else Some (e.age, e.cached.line)

last_top : (p : ℕ × ℕ) (n : ℕ) (xs : List Entry) (l : ℕ × ℕ) → p.0 ≤ n → Top n xs → last_aged (Some p) xs ≡ Some l → l.0 ≤ n
last_top p n [] l h t e = let same : p ≡ l = cc in rw (← same) h
last_top p n (x ∷ xs) l h t e = last_top (x.age, x.cached.line) n xs l t.0 t.1 e

last_some : (p : ℕ × ℕ) (xs : List Entry) → (l : ℕ × ℕ) × (last_aged (Some p) xs ≡ Some l)
last_some p [] = (p, refl)
last_some p (x ∷ xs) = last_some (x.age, x.cached.line) xs

last-inserted : (o : Option (ℕ × ℕ)) (e : Entry) (xs : List Entry) → Falls xs → last_aged o (inserted e xs) ≡ joined e (last_aged None xs)
last-inserted o e [] f = refl
last-inserted o e (x ∷ []) f = grind arith
last-inserted o e (x ∷ y ∷ ys) f =
    let s = last_some (y.age, y.cached.line) ys in
    let low = last_top (y.age, y.cached.line) x.age ys s.0 f.0.0 f.0.1 s.1 in
    let r = last-inserted (Some (x.age, x.cached.line)) e (y ∷ ys) f.1 in
    grind (arith, r, s.1, low)

joined_twice : (x e : Entry) (l : Option (ℕ × ℕ)) → joined x (joined e l) ≡ (if nat_le e.age x.age then joined e l else joined x l)
joined_twice x e None = grind arith
joined_twice x e (Some l) = grind arith

last-by_age : (x : Entry) (es : List Entry) → x.held ≡ true → AllHeld es → last_aged None (by_age (x ∷ es)) ≡ fold older (Some (x.age, x.cached.line)) es
last-by_age x [] held a = grind (arith, held)
last-by_age x (e ∷ es) held a =
    let one = last-by_age x es held a.1 in
    let other = last-by_age e es a.0 a.1 in
    let both = last-inserted None x (by_age (e ∷ es)) (falls (e ∷ es)) in
    let twice = joined_twice x e (last_aged None (by_age es)) in
    grind (arith, held, a.0, one, other, both, twice, last-inserted None e (by_age es) (falls es), last-inserted None x (by_age es) (falls es))

oldest-by_age : (es : List Entry) → AllHeld es → last_aged None (by_age es) ≡ oldest_of es
oldest-by_age [] a = refl
oldest-by_age (e ∷ es) a = last-by_age e es a.0 a.1

last-line : (h : Option (ℕ × Mode)) (o : Option (ℕ × ℕ)) (xs : List Entry) → option_map (λ (h : ℕ × Mode). h.0) h ≡ option_map (λ (l : ℕ × ℕ). l.1) o
    → option_map (λ (h : ℕ × Mode). h.0) (last_or h (held_of (cached_of xs))) ≡ option_map (λ (l : ℕ × ℕ). l.1) (last_aged o xs)
last-line h o [] e = e
last-line h o (x ∷ xs) e = last-line (Some (x.cached.line, x.cached.mode)) (Some (x.age, x.cached.line)) xs refl

-- what has to leave a set
abbrev pub Leaving : Geometry → List (ℕ × Mode) → Option ℕ
Leaving shape hs = option_map (λ h. h.0) (if length hs == shape.ways then last_or None hs else None)

pub set_full : (shape : Geometry) (line first count : ℕ) (es : List Entry) → count ≡ shape.ways → 1 ≤ shape.ways → first ≡ set_of shape line * shape.ways → first + shape.ways ≤ length es → IsPlaced shape 0 es
    → position (λ e. not e.held) (take count (drop first es)) ≡ None
    → Leaving shape (set_lines shape line (held_of (lines_of es))) ≡ option_map (λ (o : ℕ × ℕ). o.1) (oldest_of (take count (drop first es)))
set_full shape line first count es same some e h p none =
    let slice = take shape.ways (drop first es) in
    let none' : position (λ (x : Entry). not x.held) slice ≡ None = subst (λ (n : ℕ). position (λ (x : Entry). not x.held) (take n (drop first es)) ≡ None) same none in
    let past : length slice ≤ position_or_len (λ (x : Entry). not x.held) slice = grind (arith, none') in
    let all : AllHeld slice = all_held slice past in
    let long : length slice ≡ shape.ways = length-slice shape first es h in
    let count' : length (held_of (lines_of slice)) ≡ shape.ways = length-held (by_age slice) ∙ full slice all ∙ long in
    let last : option_map (λ (h : ℕ × Mode). h.0) (last_or None (held_of (lines_of slice))) ≡ option_map (λ (o : ℕ × ℕ). o.1) (oldest_of slice) =
    last-line None None (by_age slice) refl ∙ ap (option_map (λ (o : ℕ × ℕ). o.1)) (oldest-by_age slice all) in
    rw (lines_of_set shape line first es some e p, same) (grind (arith, count', last))

pub set_room : (shape : Geometry) (line first count way : ℕ) (es : List Entry) → count ≡ shape.ways → 1 ≤ shape.ways → first ≡ set_of shape line * shape.ways → first + shape.ways ≤ length es → IsPlaced shape 0 es
    → position (λ e. not e.held) (take count (drop first es)) ≡ Some way
    → length (set_lines shape line (held_of (lines_of es))) < shape.ways
set_room shape line first count way es same some e h p free =
    let slice = take shape.ways (drop first es) in
    let free' : position (λ (x : Entry). not x.held) slice ≡ Some way = subst (λ (n : ℕ). position (λ (x : Entry). not x.held) (take n (drop first es)) ≡ Some way) same free in
    let within : position_or_len (λ (x : Entry). not x.held) slice < length slice = grind (arith, free') in
    let long : length slice ≡ shape.ways = length-slice shape first es h in
    let few = not_full slice within in
    let count' : length (held_of (lines_of slice)) ≡ length (by_age slice) = length-held (by_age slice) in
    rw (lines_of_set shape line first es some e p) (omega arith)

pub set_free : (shape : Geometry) (line first count way : ℕ) (es : List Entry) → count ≡ shape.ways → 1 ≤ shape.ways → first ≡ set_of shape line * shape.ways → first + shape.ways ≤ length es → IsPlaced shape 0 es
    → position (λ e. not e.held) (take count (drop first es)) ≡ Some way
    → Leaving shape (set_lines shape line (held_of (lines_of es))) ≡ None
set_free shape line first count way es same some e h p free = let room = set_room shape line first count way es same some e h p free in grind (arith, room)

pub no_room : (shape : Geometry) (line first count : ℕ) (es : List Entry) → count ≡ shape.ways → 1 ≤ shape.ways → first ≡ set_of shape line * shape.ways → first + shape.ways ≤ length es → IsPlaced shape 0 es
    → position (λ e. not e.held) (take count (drop first es)) ≡ None
    → length (set_lines shape line (held_of (lines_of es))) ≡ shape.ways
no_room shape line first count es same some e h p none =
    let slice = take shape.ways (drop first es) in
    let none' : position (λ (x : Entry). not x.held) slice ≡ None = subst (λ (n : ℕ). position (λ (x : Entry). not x.held) (take n (drop first es)) ≡ None) same none in
    let past : length slice ≤ position_or_len (λ (x : Entry). not x.held) slice = grind (arith, none') in
    let long : length slice ≡ shape.ways = length-slice shape first es h in
    rw (lines_of_set shape line first es some e p) (length-held (by_age slice) ∙ full slice (all_held slice past) ∙ long)

-- ---- the least free way

-- the entries of a set from a way on
abbrev Sliced : Geometry → ℕ → ℕ → List Entry → Type 0
Sliced shape set n [] = Unit {0}
Sliced shape set n (e ∷ es) = (e.held ≡ true → set_of shape e.cached.line ≡ set) × (e.cached.way ≡ n) × Sliced shape set (n + 1) es

sliced : (shape : Geometry) (set n m k : ℕ) (es : List Entry) → m ≡ set * shape.ways + n → n + k ≤ shape.ways → IsPlaced shape m es → Sliced shape set n (take k es)
sliced shape set n m zero es e h p = tt
sliced shape set n m (suc k) [] e h p = tt
sliced shape set n m (suc k) (x ∷ es) e h p =
    let d : (set * shape.ways + n) / shape.ways ≡ set = div-mul-add set shape.ways n (omega arith) in
    let r : (set * shape.ways + n) % shape.ways ≡ n = mod-mul-add set shape.ways n (omega arith) in
    let here : x.held ≡ true → set_of shape x.cached.line ≡ set = λ held. p.0 held ∙ ap (λ (j : ℕ). j / shape.ways) e ∙ d in
    let way : x.cached.way ≡ n = p.1 ∙ ap (λ (j : ℕ). j % shape.ways) e ∙ r in
    (here, way, sliced shape set (n + 1) (m + 1) k es (omega arith) (omega arith) p.2)

taken-set : (shape : Geometry) (set way : ℕ) (xs : List Entry) → is_taken shape set way (cached_of xs) ≡ is_taken shape set way (cached_of (in_set shape set xs))
taken-set shape set way [] = refl
taken-set shape set way (x ∷ xs) = grind (arith, taken-set shape set way xs)

taken-inserted : (shape : Geometry) (set way : ℕ) (e : Entry) (xs : List Entry)
    → is_taken shape set way (cached_of (inserted e xs)) ≡ (((set_of shape e.cached.line == set) && (e.cached.way == way)) || is_taken shape set way (cached_of xs))
taken-inserted shape set way e [] = refl
taken-inserted shape set way e (x ∷ xs) = grind (arith, taken-inserted shape set way e xs)

untaken : (shape : Geometry) (set n way : ℕ) (xs : List Entry) → Sliced shape set n xs → way < n → is_taken shape set way (lines_of xs) ≡ false
untaken shape set n way [] s h = refl
untaken shape set n way (e ∷ es) s h = let r = untaken shape set (n + 1) way es s.2 (omega arith) in grind (arith, r, s.1, h, taken-inserted shape set way e (by_age es))

free_is : (shape : Geometry) (set count n : ℕ) (lines : List CachedLine) (xs : List Entry) → Sliced shape set n xs → ((w : ℕ) → n ≤ w → is_taken shape set w lines ≡ is_taken shape set w (lines_of xs))
    → position_or_len (λ e. not e.held) xs < length xs → length xs ≤ count → free_from shape set lines count n ≡ n + position_or_len (λ e. not e.held) xs
free_is shape set count n lines [] s same h long = absurd (omega arith)
free_is shape set zero n lines (e ∷ es) s same h long = absurd (omega arith)
free_is shape set (suc count) n lines (e ∷ es) s same h long =
    let here = same n (omega arith) in
    let past = untaken shape set (n + 1) n es s.2 (omega arith) in
    let i = taken-inserted shape set n e (by_age es) in
    let more : e.held ≡ true → (w : ℕ) → n + 1 ≤ w → is_taken shape set w lines ≡ is_taken shape set w (lines_of es) = λ held w above. let t = same w (omega arith) in let j = taken-inserted shape set w e (by_age es) in grind (arith, t, j, s.1, held, above) in
    let rest : e.held ≡ true → position_or_len (λ (x : Entry). not x.held) es < length es → free_from shape set lines count (n + 1) ≡ n + 1 + position_or_len (λ (x : Entry). not x.held) es =
    λ held within. free_is shape set count (n + 1) lines es s.2 (more held) within (omega arith) in
    grind (arith, here, past, i, s.0, s.1, rest, h)

pub puts_free : (shape : Geometry) (line first count way : ℕ) (es : List Entry) → count ≡ shape.ways → 1 ≤ shape.ways → first ≡ set_of shape line * shape.ways → first + shape.ways ≤ length es → IsPlaced shape 0 es
    → has_line line es ≡ false → position (λ e. not e.held) (take count (drop first es)) ≡ Some way → PutsAt shape line (first + way) es
unfolding way_for
puts_free shape line first count way es same some e h p absent free =
    let slice = take shape.ways (drop first es) in
    let free' : position (λ (x : Entry). not x.held) slice ≡ Some way = subst (λ (n : ℕ). position (λ (x : Entry). not x.held) (take n (drop first es)) ≡ Some way) same free in
    let long : length slice ≡ shape.ways = length-slice shape first es h in
    let within : way < shape.ways = let r = position_within (λ x. not x.held) way slice free' in omega arith in
    let at : position_or_len (λ (x : Entry). not x.held) slice ≡ way = grind (arith, free') in
    let here : (d : Entry) → not (get_or es (first + way) d).held ≡ true = λ d.
    subst (λ (x : Entry). not x.held ≡ true) (get_or-take shape.ways (drop first es) way d within ∙ get_or-drop first es way d) (position_some (λ x. not x.held) way slice d free').1 in
    let index : first + way ≡ set_of shape line * shape.ways + way = omega arith in
    let d : (set_of shape line * shape.ways + way) / shape.ways ≡ set_of shape line = div-mul-add (set_of shape line) shape.ways way within in
    let r : (set_of shape line * shape.ways + way) % shape.ways ≡ way = mod-mul-add (set_of shape line) shape.ways way within in
    let taken : (w : ℕ) → 0 ≤ w → is_taken shape (set_of shape line) w (lines_of es) ≡ is_taken shape (set_of shape line) w (lines_of slice) = λ w above.
    taken-set shape (set_of shape line) w (by_age es) ∙ ap (λ (xs : List Entry). is_taken shape (set_of shape line) w (cached_of xs)) (set_of_array shape (set_of shape line) first es some e p) in
    let cut : Sliced shape (set_of shape line) 0 slice = sliced shape (set_of shape line) 0 first shape.ways (drop first es) (omega arith) (omega arith) (placed-drop shape 0 first first es (omega arith) p) in
    let least : free_from shape (set_of shape line) (lines_of es) shape.ways 0 ≡ way = free_is shape (set_of shape line) shape.ways 0 (lines_of es) slice cut taken (omega arith) (omega arith) ∙ omega arith in
    let chosen : way_for shape line (lines_of es) ≡ way = rw (absent_entry line es absent) least in
    record {
      within = omega arith;
      alone = absent_alone line (first + way) es absent;
      takes = λ d. let f = here d in grind (arith, f);
      of_set = sym (ap (λ (j : ℕ). j / shape.ways) index ∙ d);
      way = λ x. (placed_at shape 0 (first + way) (first + way) es x (omega arith) (omega arith) p).1 ∙ ap (λ (j : ℕ). j % shape.ways) index ∙ r ∙ sym chosen;
    }

pub puts_held : (shape : Geometry) (line i : ℕ) (es : List Entry) → IsPlaced shape 0 es → StandsAt line i es → PutsAt shape line i es
unfolding way_for
puts_held shape line i [] p at = absurd (let w = at.within in omega arith)
puts_held shape line i (x ∷ es) p at =
    let is = at.here x in
    let was = placed_at shape 0 i i (x ∷ es) x (omega arith) at.within p in
    record {
      within = at.within;
      alone = at.alone;
      takes = takes line i (x ∷ es) at;
      of_set = grind (arith, is, was);
      way = λ d. sym (rw (entry_at line i (x ∷ es) d at.within (at.here d) at.alone) refl);
    }

-- ---- what has to leave for a line

pub absent_leaves : (shape : Geometry) (line : ℕ) (es : List Entry) → has_line line es ≡ false
    → option_map (λ (h : ℕ × Mode). h.0) (evicted shape line (held_of (lines_of es))) ≡ Leaving shape (set_lines shape line (held_of (lines_of es)))
absent_leaves shape line es none = let absent = absent_mode line es none in grind (arith, absent)

pub held_leaves : (shape : Geometry) (line i : ℕ) (es : List Entry) → StandsAt line i es → option_map (λ (h : ℕ × Mode). h.0) (evicted shape line (held_of (lines_of es))) ≡ None
held_leaves shape line i [] at = absurd (let w = at.within in omega arith)
held_leaves shape line i (x ∷ es) at =
    let mode = mode_of-entry line (lines_of (x ∷ es)) ∙ ap (option_map (λ (l : CachedLine). l.mode)) (entry_at line i (x ∷ es) x at.within (at.here x) at.alone) in
    grind (arith, mode)

count-by_age : (es : List Entry) → length (by_age es) ≡ length (filter (λ e. e.held) es)
count-by_age [] = refl
count-by_age (e ∷ es) = grind (arith, count-by_age es, length-inserted e (by_age es))

pub length-lines : (es : List Entry) → length (held_of (lines_of es)) ≡ length (filter (λ e. e.held) es)
length-lines es = length-held (by_age es) ∙ count-by_age es
