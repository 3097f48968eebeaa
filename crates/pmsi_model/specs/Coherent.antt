-- What holds of the machine at each slot boundary.
use Rattle.std.specs.Prelude.{◌≡◌, ◌≢◌, ◌⊎◌, ℕ, ◌<◌, ◌≤◌, List, [], ◌∷◌, length, true, false, Option, Some, None, is_some, if◌then◌else◌}
use Rattle.pmsi_model.specs.declared.job.Geometry.{Geometry}
use Rattle.pmsi_model.specs.declared.Kind.TheVariants.{Read, Write}
use Rattle.pmsi_model.specs.declared.Mode.{Mode}
use Rattle.pmsi_model.specs.declared.Mode.TheVariants.{Shared, Modified}
use Rattle.pmsi_model.specs.declared.Status.TheVariants.{Running}
use Rattle.pmsi_model.specs.declared.Want.{Want}
use Rattle.pmsi_model.specs.Geometry.{set_of}
use Rattle.pmsi_model.specs.Machine.{Machine, Request, mode_of, mode_in, has_line, has_request, request_of}
use Rattle.pmsi_model.specs.Phase.{set_lines}

-- no line is held twice
abbrev pub HoldsEachOnce : List (ℕ × Mode) → Type 0
HoldsEachOnce [] = Unit {0}
HoldsEachOnce (h ∷ hs) = (mode_of h.0 hs ≡ None) × HoldsEachOnce hs

-- no line is listed twice
abbrev pub ListsEachOnce : List ℕ → Type 0
ListsEachOnce [] = Unit {0}
ListsEachOnce (line ∷ lines) = (has_line line lines ≡ false) × ListsEachOnce lines

-- no core has two requests
abbrev pub RequestsOnce : List Request → Type 0
RequestsOnce [] = Unit {0}
RequestsOnce (r ∷ rs) = (request_of r.core rs ≡ None) × RequestsOnce rs

-- the request that a want stands for: one, with its line and kind, exactly where it is posted
abbrev pub posted_request : ℕ → Option Want → Option Request
posted_request c None = None
posted_request c (Some want) = if is_some want.post then Some (record { core = c; line = want.line; kind = want.kind }) else None

-- the victim of a want
abbrev pub victim_in : Option Want → Option ℕ
victim_in None = None
victim_in (Some want) = want.victim

-- a posted want's slots: of the miss, of the post, and the boundary's
abbrev pub IsPostedBy : ℕ → ℕ → Option ℕ → Type 0
IsPostedBy slot issue None = Unit {0}
IsPostedBy slot issue (Some post) = (issue ≤ post) × (post < slot)

-- core c wants this
abbrev pub HasWant : Machine → ℕ → Want → Type 0
HasWant x c want = (x.cores c).want ≡ Some want

pub record IsCoherent (shape : Geometry) (x : Machine) : Type 0 where
  -- a line that one core owns is held by no other, in either mode
  pub owned_alone : (c d line : ℕ) → mode_in x c line ≡ Some Modified → d ≢ c → mode_in x d line ≡ None
  -- a core holds a line once, and at most as many lines of a set as there are ways
  pub held_once : (c : ℕ) → HoldsEachOnce (x.cores c).held
  pub held_within : (c line : ℕ) → length (set_lines shape line (x.cores c).held) ≤ shape.ways
  -- a core has at most one posted request: exactly where its want is posted, with that line and kind
  pub posted_once : RequestsOnce x.posted
  pub posted_wants : (c : ℕ) → request_of c x.posted ≡ posted_request c (x.cores c).want
  -- a line for which a core's write is queued is held shared by no other core
  pub write_alone : (c d : ℕ) (r : Request) → request_of c x.posted ≡ Some r → r.kind ≡ Write → d ≢ c → mode_in x d r.line ≢ Some Shared
  -- the owner of a line whose queue isn't empty has it to write back
  pub demanded_waits : (c line : ℕ) → mode_in x c line ≡ Some Modified → has_request line x.posted ≡ true → has_line line (x.cores c).write_backs ≡ true
  -- lines to write back are listed once, owned, and each is the core's victim or has a queue that isn't empty
  pub back_once : (c : ℕ) → ListsEachOnce (x.cores c).write_backs
  pub back_owned : (c line : ℕ) → has_line line (x.cores c).write_backs ≡ true → mode_in x c line ≡ Some Modified
  pub back_due : (c line : ℕ) → has_line line (x.cores c).write_backs ≡ true → (victim_in (x.cores c).want ≡ Some line) ⊎ (has_request line x.posted ≡ true)
  -- no core owns a line that it has a request for
  pub posted_unowned : (c : ℕ) (r : Request) → request_of c x.posted ≡ Some r → mode_in x c r.line ≢ Some Modified
  -- a core doesn't hold the line that it wants to read, nor own the line that it wants to write
  pub read_unheld : (c : ℕ) (want : Want) → HasWant x c want → want.kind ≡ Read → mode_in x c want.line ≡ None
  pub write_unowned : (c : ℕ) (want : Want) → HasWant x c want → want.kind ≡ Write → mode_in x c want.line ≢ Some Modified
  -- a victim is owned and to be written back; it is another line of the set of the wanted one, whose want is unposted
  pub victim_owned : (c : ℕ) (want : Want) (victim : ℕ) → HasWant x c want → want.victim ≡ Some victim → mode_in x c victim ≡ Some Modified
  pub victim_waits : (c : ℕ) (want : Want) (victim : ℕ) → HasWant x c want → want.victim ≡ Some victim → has_line victim (x.cores c).write_backs ≡ true
  pub victim_of_set : (c : ℕ) (want : Want) (victim : ℕ) → HasWant x c want → want.victim ≡ Some victim → set_of shape victim ≡ set_of shape want.line
  pub victim_other : (c : ℕ) (want : Want) (victim : ℕ) → HasWant x c want → want.victim ≡ Some victim → victim ≢ want.line
  pub victim_unposted : (c : ℕ) (want : Want) (victim : ℕ) → HasWant x c want → want.victim ≡ Some victim → want.post ≡ None
  -- a wanted line is held, or its set has room, or there is a victim
  pub want_has_room : (c : ℕ) (want : Want) → HasWant x c want →
      (mode_in x c want.line ≢ None) ⊎ ((length (set_lines shape want.line (x.cores c).held) < shape.ways) ⊎ (want.victim ≢ None))
  -- a want began in an earlier slot, and was posted in an earlier slot, not before it began
  pub want_issued : (c : ℕ) (want : Want) → HasWant x c want → want.issue < x.slot
  pub want_posted : (c : ℕ) (want : Want) → HasWant x c want → IsPostedBy x.slot want.issue want.post
  -- a core that wants something runs
  pub want_runs : (c : ℕ) (want : Want) → HasWant x c want → (x.cores c).status ≡ Running
