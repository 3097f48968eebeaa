-- The state of the written machine: one flat memory, the posted requests in order, and per core what it holds and wants.
-- There are no copies of data in it, no ages, and no states of lines that are on their way.
use Rattle.std.specs.Prelude.{◌≡◌, ℕ, zero, suc, ◌+◌, List, [], ◌∷◌, ◌++◌, map, Bool, true, false, not, ◌==◌, ◌&&◌, ◌||◌, Option, Some, None, is_none, if◌then◌else◌}
use Rattle.std.specs.List.{filter, list_any}
use Rattle.pmsi_model.specs.declared.Kind.{Kind}
use Rattle.pmsi_model.specs.declared.Kind.TheVariants.{Read, Write}
use Rattle.pmsi_model.specs.declared.Mode.{Mode}
use Rattle.pmsi_model.specs.declared.Mode.TheVariants.{Shared, Modified}
use Rattle.pmsi_model.specs.declared.Status.{Status}
use Rattle.pmsi_model.specs.declared.Turn.{Turn}
use Rattle.pmsi_model.specs.declared.Want.{Want}

-- a posted request
pub record Request : Type 0 where
  pub core : ℕ
  pub line : ℕ
  pub kind : Kind

-- what the machine has of a core. `held` has the lines that it holds, most recently used first; `want` is its outstanding
-- miss; `write_backs` is its write-back queue; `turn` says what it does first in its next own slot, where both are possible
pub record CoreState : Type 0 where
  pub regs : List ℕ
  pub pc : ℕ
  pub status : Status
  pub retired : ℕ
  pub held : List (ℕ × Mode)
  pub want : Option Want
  pub write_backs : List ℕ
  pub turn : Turn

-- the machine: memory as the cores see it, in bytes, and the posted requests, in posting order
pub record Machine : Type 0 where
  pub slot : ℕ
  pub memory : List ℕ
  pub posted : List Request
  pub cores : ℕ → CoreState

-- one core becomes another
abbrev pub with_core : Machine → ℕ → CoreState → Machine
with_core x c k = record x { cores = λ d. if d == c then k else x.cores d }

-- ---- held lines

-- the mode in which a line is held
abbrev pub mode_of : ℕ → List (ℕ × Mode) → Option Mode
mode_of line [] = None
mode_of line (h ∷ hs) = if h.0 == line then Some h.1 else mode_of line hs

abbrev pub is_modified : Option Mode → Bool
is_modified None = false
is_modified (Some Shared) = false
is_modified (Some Modified) = true

abbrev pub is_shared : Option Mode → Bool
is_shared None = false
is_shared (Some Shared) = true
is_shared (Some Modified) = false

-- the held lines without one of them
abbrev pub without : ℕ → List (ℕ × Mode) → List (ℕ × Mode)
without line held = filter (λ h. not (h.0 == line)) held

-- a line goes to the front, in this mode
abbrev pub to_front : ℕ → Mode → List (ℕ × Mode) → List (ℕ × Mode)
to_front line mode held = (line, mode) ∷ without line held

-- a line gets another mode, in its place
abbrev pub with_mode : ℕ → Mode → List (ℕ × Mode) → List (ℕ × Mode)
with_mode line mode held = map (λ h. if h.0 == line then (line, mode) else h) held

-- ---- lines to write back

abbrev pub has_line : ℕ → List ℕ → Bool
has_line line lines = list_any (λ l. l == line) lines

-- a line goes last, unless it is there
abbrev pub append_once : ℕ → List ℕ → List ℕ
append_once line lines = if has_line line lines then lines else lines ++ line ∷ []

-- ---- posted requests

abbrev pub is_write : Kind → Bool
is_write Read = false
is_write Write = true

-- the queue of a line: its requests in posting order
abbrev pub queue_of : ℕ → List Request → List Request
queue_of line posted = filter (λ r. r.line == line) posted

-- the core of the first request of a line's queue
abbrev pub first_of : ℕ → List Request → Option ℕ
first_of line [] = None
first_of line (r ∷ rs) = if r.line == line then Some r.core else first_of line rs

-- a line's queue isn't empty
abbrev pub has_request : ℕ → List Request → Bool
has_request line [] = false
has_request line (r ∷ rs) = (r.line == line) || has_request line rs

-- a line's queue has a write
abbrev pub has_write : ℕ → List Request → Bool
has_write line [] = false
has_write line (r ∷ rs) = ((r.line == line) && is_write r.kind) || has_write line rs

-- how many requests of a line stand before the core's
abbrev pub ahead : ℕ → ℕ → List Request → ℕ
ahead c line [] = 0
ahead c line (r ∷ rs) = if r.core == c then 0 else (if r.line == line then 1 else 0) + ahead c line rs

-- a core's posted request
abbrev pub request_of : ℕ → List Request → Option Request
request_of c [] = None
request_of c (r ∷ rs) = if r.core == c then Some r else request_of c rs

-- the requests of the other cores
abbrev pub removed : ℕ → List Request → List Request
removed c posted = filter (λ r. not (r.core == c)) posted

-- the readers of a line's queue, by its filtered list: its first core, whether it has a request, whether it has a write
abbrev pub has_any : List Request → Bool
has_any [] = false
has_any (r ∷ rs) = true

abbrev pub first_core : List Request → Option ℕ
first_core [] = None
first_core (r ∷ rs) = Some r.core

abbrev pub QueueIsRead : Type 0
QueueIsRead = (line : ℕ) (posted : List Request) →
    (first_of line posted ≡ first_core (queue_of line posted))
    × (has_request line posted ≡ has_any (queue_of line posted))
    × (has_write line posted ≡ list_any (λ r. is_write r.kind) (queue_of line posted))

-- how many requests stand before the core's in a queue
abbrev pub before : ℕ → List Request → ℕ
before c [] = 0
before c (r ∷ rs) = if r.core == c then 0 else 1 + before c rs

-- ahead is the place in the queue, for a core whose request is in it
abbrev pub PlaceIsRead : Type 0
PlaceIsRead = (c line : ℕ) (posted : List Request) (r : Request) → request_of c posted ≡ Some r → r.line ≡ line →
    ahead c line posted ≡ before c (queue_of line posted)

-- ---- owners

-- the mode in which a core holds a line
abbrev pub mode_in : Machine → ℕ → ℕ → Option Mode
mode_in x c line = mode_of line (x.cores c).held

-- a core owns a line: it holds it modified
abbrev pub owns : Machine → ℕ → ℕ → Bool
owns x c line = is_modified (mode_in x c line)

abbrev pub or_else : Option ℕ → Option ℕ → Option ℕ
or_else None other = other
or_else (Some n) other = Some n

-- the owner of a line: the least of the first `count` cores that owns it
abbrev pub owner_of : Machine → ℕ → ℕ → Option ℕ
owner_of x zero line = None
owner_of x (suc count) line = or_else (owner_of x count line) (if owns x count line then Some count else None)

-- none of the first `count` cores owns the line
abbrev pub nobody_owns : Machine → ℕ → ℕ → Bool
nobody_owns x count line = is_none (owner_of x count line)
