-- What the readers of the posted requests say after a request is added or removed.
use Rattle.std.proofs.Common.{◌≡◌, ◌≢◌, ℕ, ◌+◌, ◌≤◌, length, List, [], ◌∷◌, ◌++◌, Some, None, is_some, true, ◌==◌, ◌&&◌, ◌||◌, if◌then◌else◌, refl, arith, zero, suc, ◌<◌, length-append, Option}
use Rattle.pmsi_model.specs.declared.Kind.TheVariants.{Read, Write}
use Rattle.pmsi_model.specs.Machine.{Request, is_write, first_of, has_request, has_write, ahead, request_of, removed}
use Rattle.pmsi_model.specs.Bus.{is_core}
use Rattle.pmsi_model.specs.Coherent.{RequestsOnce}
use Rattle.pmsi_model.proofs.Cases.{by_test}

pub request_more : (c : ℕ) (rs : List Request) (r : Request)
    → request_of c (rs ++ r ∷ []) ≡ (if is_some (request_of c rs) then request_of c rs else (if r.core == c then Some r else None))
request_more c [] r = grind arith
request_more c (x ∷ rs) r = grind (arith, request_more c rs r)

pub has_request_more : (line : ℕ) (rs : List Request) (r : Request)
    → has_request line (rs ++ r ∷ []) ≡ (has_request line rs || r.line == line)
has_request_more line [] r = grind arith
has_request_more line (x ∷ rs) r = grind (arith, has_request_more line rs r)

pub has_write_more : (line : ℕ) (rs : List Request) (r : Request)
    → has_write line (rs ++ r ∷ []) ≡ (has_write line rs || (r.line == line && is_write r.kind))
has_write_more line [] r = grind arith
has_write_more line (x ∷ rs) r = grind (arith, has_write_more line rs r)

pub request_less : (c d : ℕ) (rs : List Request) → request_of c (removed d rs) ≡ (if c == d then None else request_of c rs)
request_less c d [] = grind arith
request_less c d (x ∷ rs) = grind (arith, request_less c d rs)

-- a core's request bears its number
pub request_core : (c : ℕ) (rs : List Request) (r : Request) → request_of c rs ≡ Some r → r.core ≡ c
request_core c [] r is = grind arith
request_core c (x ∷ rs) r is = grind (arith, request_core c rs r)

pub removed_none : (c : ℕ) (rs : List Request) → request_of c rs ≡ None → removed c rs ≡ rs
removed_none c [] none = refl
removed_none c (x ∷ rs) none = grind (arith, removed_none c rs)

-- a line that has a request after the removal had one before
pub has_request_less : (line c : ℕ) (rs : List Request) → has_request line (removed c rs) ≡ true → has_request line rs ≡ true
has_request_less line c [] has = has
has_request_less line c (x ∷ rs) has = grind (arith, has_request_less line c rs)

-- the queue of a line that the removed request isn't for is as before
pub has_request_else : (line c : ℕ) (rs : List Request) (r : Request) → RequestsOnce rs → request_of c rs ≡ Some r → r.line ≢ line
    → has_request line (removed c rs) ≡ has_request line rs
has_request_else line c [] r once is other = grind arith
has_request_else line c (x ∷ rs) r once is other = grind (arith, has_request_else line c rs r once.1, removed_none c rs, once.0)

pub has_write_else : (line c : ℕ) (rs : List Request) (r : Request) → RequestsOnce rs → request_of c rs ≡ Some r → r.line ≢ line
    → has_write line (removed c rs) ≡ has_write line rs
has_write_else line c [] r once is other = grind arith
has_write_else line c (x ∷ rs) r once is other = grind (arith, has_write_else line c rs r once.1, removed_none c rs, once.0)

-- a core's request is queued for its line
pub request_queued : (c : ℕ) (rs : List Request) (r : Request) → request_of c rs ≡ Some r → has_request r.line rs ≡ true
request_queued c [] r is = grind arith
request_queued c (x ∷ rs) r is = grind (arith, request_queued c rs r)

-- a core's write is queued for its line
pub write_queued : (c : ℕ) (rs : List Request) (r : Request) → request_of c rs ≡ Some r → r.kind ≡ Write → has_write r.line rs ≡ true
write_queued c [] r is write = grind arith
write_queued c (x ∷ rs) r is write = grind (arith, write_queued c rs r)

pub requests_once_more : (rs : List Request) (r : Request) → RequestsOnce rs → request_of r.core rs ≡ None → RequestsOnce (rs ++ r ∷ [])
requests_once_more [] r once none = (refl, tt)
requests_once_more (x ∷ rs) r once none = (grind (arith, request_more x.core rs r, once.0), requests_once_more rs r once.1 (grind arith))

pub requests_once_less : (c : ℕ) (rs : List Request) → RequestsOnce rs → RequestsOnce (removed c rs)
requests_once_less c [] once = once
requests_once_less c (x ∷ rs) once = grind (arith, request_less x.core c rs, requests_once_less c rs once.1)

-- ---- the first of a queue

pub first_more : (line : ℕ) (rs : List Request) (r : Request)
    → first_of line (rs ++ r ∷ []) ≡ (if is_some (first_of line rs) then first_of line rs else (if r.line == line then Some r.core else None))
first_more line [] r = grind arith
first_more line (x ∷ rs) r = grind (arith, first_more line rs r)

-- a queue has a first where it has a request
pub first_some : (line : ℕ) (rs : List Request) → is_some (first_of line rs) ≡ has_request line rs
first_some line [] = refl
first_some line (x ∷ rs) = grind (arith, first_some line rs)

-- the first has a request for the line
pub first_request : (c line : ℕ) (rs : List Request) → RequestsOnce rs → first_of line rs ≡ Some c
    → (r : Request) × (request_of c rs ≡ Some r) × (r.line ≡ line)
first_request c line [] once first = absurd (grind arith)
first_request c line (x ∷ rs) once first =
    by_test (λ o. o ≡ Some c → (r : Request) × (request_of c (x ∷ rs) ≡ Some r) × (r.line ≡ line)) (x.line == line) (Some x.core) (first_of line rs)
    (λ here is. (x, grind arith, grind arith))
    (λ other is. let later = first_request c line rs once.1 is in (later.0, grind (arith, later.1, once.0), later.2))
    first

-- where the removed request isn't the first, the first stays
pub first_less : (c line : ℕ) (rs : List Request) → first_of line rs ≢ Some c → first_of line (removed c rs) ≡ first_of line rs
first_less c line [] other = refl
first_less c line (x ∷ rs) other = grind (arith, first_less c line rs)

-- ---- how many are ahead

-- a request that is posted later isn't ahead
pub ahead_more : (c line : ℕ) (rs : List Request) (r q : Request) → request_of c rs ≡ Some q → ahead c line (rs ++ r ∷ []) ≡ ahead c line rs
ahead_more c line [] r q is = grind arith
ahead_more c line (x ∷ rs) r q is = grind (arith, ahead_more c line rs r q)

-- when the first is removed one fewer is ahead
pub ahead_less : (c d line : ℕ) (rs : List Request) (r : Request) → RequestsOnce rs → first_of line rs ≡ Some d → d ≢ c
    → request_of c rs ≡ Some r → r.line ≡ line → ahead c line rs ≡ ahead c line (removed d rs) + 1
ahead_less c d line [] r once first other is at = grind arith
ahead_less c d line (x ∷ rs) r once first other is at = grind (arith, ahead_less c d line rs r once.1, removed_none d rs, once.0)

-- when a request of another line is removed as many are ahead
pub ahead_else : (c d line : ℕ) (rs : List Request) (r : Request) → RequestsOnce rs → request_of d rs ≡ Some r → r.line ≢ line → d ≢ c
    → ahead c line (removed d rs) ≡ ahead c line rs
ahead_else c d line [] r once is away other = grind arith
ahead_else c d line (x ∷ rs) r once is away other = grind (arith, ahead_else c d line rs r once.1, removed_none d rs, once.0)

-- at most the requests beside the core's own are ahead
pub ahead_within : (c line : ℕ) (rs : List Request) (r : Request) → request_of c rs ≡ Some r → ahead c line rs + 1 ≤ length rs
ahead_within c line [] r is = absurd (grind arith)
ahead_within c line (x ∷ rs) r is = grind (arith, ahead_within c line rs r)

-- ---- how many there are

pub request_count : (c : ℕ) (rs : List Request) → RequestsOnce rs → length rs ≤ length (removed c rs) + 1
request_count c [] once = grind arith
request_count c (r ∷ rs) once = grind (arith, request_count c rs once.1, removed_none c rs, once.0)

-- at most as many as there are cores
pub requests_within : (count : ℕ) (rs : List Request) → RequestsOnce rs → ((c : ℕ) → count ≤ c → request_of c rs ≡ None) → length rs ≤ count
requests_within zero [] once none = omega arith
requests_within zero (r ∷ rs) once none = absurd (let n : request_of r.core (r ∷ rs) ≡ None = none r.core (omega arith) in grind arith)
requests_within (suc count) rs once none =
    let fewer : length (removed count rs) ≤ count =
    requests_within count (removed count rs) (requests_once_less count rs once) (λ c past. grind (arith, request_less c count rs, none c)) in
    let counts = request_count count rs once in omega arith

-- where a core has none there is room for one more
pub requests_below : (count : ℕ) (rs : List Request) (d : ℕ) → RequestsOnce rs → ((c : ℕ) → count ≤ c → request_of c rs ≡ None) → d < count
    → request_of d rs ≡ None → length rs + 1 ≤ count
requests_below count rs d once none below free =
    let r : Request = record { core = d; line = 0; kind = Read } in
    let all : length (rs ++ r ∷ []) ≤ count =
    requests_within count (rs ++ r ∷ []) (requests_once_more rs r once free) (λ c past. grind (arith, request_more c rs r, none c past)) in
    omega (arith, length-append rs (r ∷ []))

-- a request that writes is one
pub write_waits : (line : ℕ) (rs : List Request) → has_write line rs ≡ true → has_request line rs ≡ true
write_waits line [] is = is
write_waits line (r ∷ rs) is = grind (arith, write_waits line rs)

-- the test whether it is this core
pub core_is : (c : ℕ) (o : Option ℕ) → is_core c o ≡ true → o ≡ Some c
core_is c None is = absurd (grind arith)
core_is c (Some d) is = grind arith
