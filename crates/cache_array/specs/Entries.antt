-- The entries of a cache, `ways` for each set, and the lines that they hold, by falling age.
use Rattle.std.specs.Prelude.{◌≡◌, ℕ, zero, suc, ◌+◌, ◌*◌, ◌/◌, ◌%◌, ◌<◌, ◌≤◌, List, [], ◌∷◌, map, length, get_or, Bool, true, false, ◌==◌, ◌&&◌, ◌||◌, nat_le, nat_lt, Option, Some, None, if◌then◌else◌}
use Rattle.std.specs.List.{fold}
use Rattle.pmsi_model.specs.declared.job.Geometry.{Geometry}
use Rattle.pmsi_model.specs.Geometry.{set_of}
use Rattle.cache_array.specs.declared.line.CachedLine.{CachedLine}
use Rattle.cache_array.specs.declared.entry.Entry.{Entry}
use Rattle.cache_array.specs.Cache.{IsCache, way_for}

-- ---- the lines by falling age

-- an entry before those that aren't older
abbrev pub inserted : Entry → List Entry → List Entry
inserted e [] = e ∷ []
inserted e (x ∷ xs) = if nat_le x.age e.age then e ∷ x ∷ xs else x ∷ inserted e xs

-- the held entries, the greatest age first
abbrev pub by_age : List Entry → List Entry
by_age [] = []
by_age (e ∷ es) = if e.held then inserted e (by_age es) else by_age es

abbrev pub cached_of : List Entry → List CachedLine
cached_of entries = map (λ e. e.cached) entries

-- the held lines, most recently used first
abbrev pub lines_of : List Entry → List CachedLine
lines_of entries = cached_of (by_age entries)

-- ---- where a line stands

abbrev pub is_line : ℕ → Entry → Bool
is_line line e = e.held && (e.cached.line == line)

abbrev pub has_line : ℕ → List Entry → Bool
has_line line [] = false
has_line line (e ∷ es) = is_line line e || has_line line es

-- no entry but one has the line
abbrev pub IsAlone : ℕ → ℕ → List Entry → Type 0
IsAlone line i [] = Unit {0}
IsAlone line zero (e ∷ es) = has_line line es ≡ false
IsAlone line (suc i) (e ∷ es) = (is_line line e ≡ false) × IsAlone line i es

pub record StandsAt (line i : ℕ) (entries : List Entry) : Type 0 where
  pub within : i < length entries
  pub here : (d : Entry) → is_line line (get_or entries i d) ≡ true
  pub alone : IsAlone line i entries

-- what a search gives: the line's place, or none where it isn't held
abbrev pub IsPlaceOf : ℕ → List Entry → Option ℕ → Type 0
IsPlaceOf line entries None = has_line line entries ≡ false
IsPlaceOf line entries (Some i) = StandsAt line i entries

-- the entry's line, where it has one, is this one
abbrev pub Takes : ℕ → ℕ → List Entry → Type 0
Takes line i es = (d : Entry) → (get_or es i d).held ≡ is_line line (get_or es i d)

-- the line's own place, or the first free one of its set
pub record PutsAt (shape : Geometry) (line i : ℕ) (es : List Entry) : Type 0 where
  pub within : i < length es
  pub alone : IsAlone line i es
  pub takes : Takes line i es
  pub of_set : set_of shape line ≡ i / shape.ways
  pub way : (d : Entry) → (get_or es i d).cached.way ≡ way_for shape line (lines_of es)

-- ---- the invariant

-- entry n is way n % ways of set n / ways
abbrev pub IsPlaced : Geometry → ℕ → List Entry → Type 0
IsPlaced shape n [] = Unit {0}
IsPlaced shape n (e ∷ es) =
    (e.held ≡ true → set_of shape e.cached.line ≡ n / shape.ways) × (e.cached.way ≡ n % shape.ways) × IsPlaced shape (n + 1) es

-- each held line's age is below a number
abbrev pub AgesBelow : ℕ → List Entry → Type 0
AgesBelow n [] = Unit {0}
AgesBelow n (e ∷ es) = (e.held ≡ true → e.age < n) × AgesBelow n es

pub record IsArray (shape : Geometry) (next : ℕ) (entries : List Entry) : Type 0 where
  pub cache : IsCache (record { shape = shape; lines = lines_of entries })
  pub count : length entries ≡ shape.sets * shape.ways
  pub placed : IsPlaced shape 0 entries
  pub ages : AgesBelow next entries

-- ---- changes that keep the lines

-- an entry but for its age
abbrev pub ageless : Entry → Entry
ageless e = record e { age = 0 }

-- a new array, from entry n on
abbrev pub AreFree : ℕ → ℕ → List Entry → Type 0
AreFree ways n [] = Unit {0}
AreFree ways n (e ∷ es) = (e.held ≡ false) × (e.cached.way ≡ n % ways) × AreFree ways (n + 1) es

-- an age gets another number
abbrev pub renamed : ℕ → ℕ → Entry → Entry
renamed from to e = record e { age = if e.age == from then to else e.age }

-- no held line's age is from one number on and below another
abbrev pub NoneBetween : ℕ → ℕ → List Entry → Type 0
NoneBetween to from [] = Unit {0}
NoneBetween to from (e ∷ es) = (e.held ≡ true → to ≤ e.age → from ≤ e.age) × NoneBetween to from es

-- the end of the ages, which no line has: the greatest number of 64 bits
abbrev pub last_age : ℕ
last_age = 18446744073709551615

-- the least of a number and the ages of held lines from another number on
abbrev pub lesser : ℕ → ℕ → Entry → ℕ
lesser least found e = if e.held && (nat_le least e.age && nat_lt e.age found) then e.age else found

abbrev pub least_of : ℕ → ℕ → List Entry → ℕ
least_of found least es = fold (lesser least) found es

-- how many held lines have an age from a number on
abbrev pub count_from : ℕ → List Entry → ℕ
count_from least [] = 0
count_from least (e ∷ es) = (if e.held && nat_le least e.age then 1 else 0) + count_from least es

-- the age and the number of the line that is older
abbrev pub older : Option (ℕ × ℕ) → Entry → Option (ℕ × ℕ)
older None e = Some (e.age, e.cached.line)
older (Some o) e = if nat_le e.age o.0 then Some (e.age, e.cached.line) else Some o

abbrev pub oldest_of : List Entry → Option (ℕ × ℕ)
oldest_of es = fold older None es
