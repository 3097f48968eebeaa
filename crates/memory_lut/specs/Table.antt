-- The table of posted requests, an entry for each core, and what stands in it, by rising stamp.
use Rattle.std.specs.Prelude.{◌≡◌, ℕ, ◌+◌, ◌<◌, ◌≤◌, List, [], ◌∷◌, map, length, Bool, false, ◌==◌, ◌&&◌, nat_le, nat_lt, Option, Some, None, if◌then◌else◌}
use Rattle.std.specs.List.{filter, fold, list_any}
use Rattle.pmsi_model.specs.declared.Behind.{Behind}
use Rattle.pmsi_model.specs.declared.Behind.TheVariants.{Nobody, Reads, Write as WriteBehind}
use Rattle.pmsi_model.specs.declared.limits.TheConstants.{MAX_CORES}
use Rattle.pmsi_model.specs.Machine.{Request, is_write}
use Rattle.memory_lut.specs.declared.entry.Entry.{Entry}

-- what a contract sees of the table: how many entries it has, and the posted requests in posting order
pub record TableValue : Type 0 where
  pub cores : ℕ
  pub posted : List Request

-- ---- the requests by rising stamp

-- a request before those that aren't earlier
abbrev pub inserted : Entry → List Entry → List Entry
inserted s [] = s ∷ []
inserted s (x ∷ xs) = if nat_le s.stamp x.stamp then s ∷ x ∷ xs else x ∷ inserted s xs

-- what stands in the entries, the least stamp first
abbrev pub by_stamp : List (Option Entry) → List Entry
by_stamp [] = []
by_stamp (None ∷ es) = by_stamp es
by_stamp (Some s ∷ es) = inserted s (by_stamp es)

-- the request without its stamp
abbrev pub request_at : Entry → Request
request_at s = record { core = s.core; line = s.line; kind = s.kind }

-- the requests without their stamps
abbrev pub requests_of : List Entry → List Request
requests_of xs = map request_at xs

-- the posted requests in posting order
abbrev pub posted_of : List (Option Entry) → List Request
posted_of es = requests_of (by_stamp es)

-- the value of a table with these entries
abbrev pub table_of : List (Option Entry) → TableValue
table_of es = record { cores = length es; posted = posted_of es }

-- ---- the invariant

-- entry n holds a request of core n
abbrev pub IsPlaced : ℕ → List (Option Entry) → Type 0
IsPlaced n [] = Unit {0}
IsPlaced n (None ∷ es) = IsPlaced (n + 1) es
IsPlaced n (Some s ∷ es) = (s.core ≡ n) × IsPlaced (n + 1) es

-- each stamp is below a number
abbrev pub StampsBelow : ℕ → List (Option Entry) → Type 0
StampsBelow n [] = Unit {0}
StampsBelow n (None ∷ es) = StampsBelow n es
StampsBelow n (Some s ∷ es) = (s.stamp < n) × StampsBelow n es

-- each stamp is above a number
abbrev pub AreAbove : ℕ → List Entry → Type 0
AreAbove n [] = Unit {0}
AreAbove n (x ∷ xs) = (n < x.stamp) × AreAbove n xs

-- each stamp is above those before it
abbrev pub Rises : List Entry → Type 0
Rises [] = Unit {0}
Rises (x ∷ xs) = AreAbove x.stamp xs × Rises xs

-- the end of the stamps, which no request has: the greatest number of 64 bits
abbrev pub last_stamp : ℕ
last_stamp = 18446744073709551615

-- each core has one request at most, in its entry; stamps differ, and are below the next
pub record IsTable (next : ℕ) (es : List (Option Entry)) : Type 0 where
  pub placed : IsPlaced 0 es
  pub rises : Rises (by_stamp es)
  pub below : StampsBelow next es
  pub within : next ≤ last_stamp
  pub few : length es ≤ MAX_CORES

-- ---- searches

-- the earlier of a line's request that was found and an entry's, where that is for the line
abbrev pub sooner : ℕ → Option Entry → Option Entry → Option Entry
sooner line found None = found
sooner line None (Some s) = if s.line == line then Some s else None
sooner line (Some f) (Some s) = if (s.line == line) && nat_lt s.stamp f.stamp then Some s else Some f

-- a line's request of the least stamp
abbrev pub soonest : ℕ → List (Option Entry) → Option Entry
soonest line es = fold (sooner line) None es

-- the entry has a request for a line, with a stamp below a number
abbrev pub is_before : ℕ → ℕ → Option Entry → Bool
is_before line stamp None = false
is_before line stamp (Some s) = (s.line == line) && nat_lt s.stamp stamp

-- the entry has a request that meets a test
abbrev pub meets : (Request → Bool) → Option Entry → Bool
meets test None = false
meets test (Some s) = test (request_at s)

-- what is queued for a line
abbrev pub queued : ℕ → List (Option Entry) → Behind
queued line es =
    if list_any (meets (λ r. (r.line == line) && is_write r.kind)) es then WriteBehind
    else (if list_any (meets (λ r. r.line == line)) es then Reads else Nobody)

-- ---- new stamps

-- the entry has a stamp below a number
abbrev pub is_earlier : ℕ → Option Entry → Bool
is_earlier stamp None = false
is_earlier stamp (Some s) = nat_lt s.stamp stamp

-- how many stamps are below a number
abbrev pub rank : List (Option Entry) → ℕ → ℕ
rank es stamp = length (filter (is_earlier stamp) es)

-- the stamp becomes its rank
abbrev pub ranked : List (Option Entry) → Entry → Entry
ranked es s = record s { stamp = rank es s.stamp }

-- an entry whose stamp, where it has one, becomes its rank
abbrev pub ranked_entry : List (Option Entry) → Option Entry → Option Entry
ranked_entry es None = None
ranked_entry es (Some s) = Some (ranked es s)
