-- What a core has to do on the bus, and the choice between its request and its write-back.
use Rattle.std.specs.Prelude.{ℕ, ◌+◌, ◌≤◌, List, [], ◌∷◌, length, Bool, false, not, ◌==◌, ◌&&◌, ◌||◌, Option, Some, None, is_some, is_none, if◌then◌else◌, option_map}
use Rattle.pmsi_model.specs.declared.limits.TheConstants.{MAX_CORES}
use Rattle.pmsi_model.specs.declared.Turn.{Turn}
use Rattle.pmsi_model.specs.declared.Want.{Want}
use Rattle.pmsi_model.specs.Bus.{can_write_back, is_request_turn}
use Rattle.pmsi_model.specs.Coherent.{ListsEachOnce}
use Rattle.pend_buffers.specs.declared.Choice.{Choice}
use Rattle.pend_buffers.specs.declared.Choice.TheVariants.{Idle, Request, Back}

-- `cores` is the number of cores on the bus, `write_backs` the write-back queue, `want` and `turn` are the core's own
pub record PendingValue : Type 0 where
  pub cores : ℕ
  pub want : Option Want
  pub write_backs : List ℕ
  pub turn : Turn

-- a line waits once, and at most as many wait as there are cores
pub record IsPending (p : PendingValue) : Type 0 where
  pub some : 1 ≤ p.cores
  pub within : p.cores ≤ MAX_CORES
  pub few : length p.write_backs ≤ p.cores
  pub once : ListsEachOnce p.write_backs

-- ---- the choice

-- a request is possible where it is unposted and no victim stands, or where it is posted and ready
abbrev pub can_ask : Bool → Option Want → Bool
can_ask ready None = false
can_ask ready (Some want) = if is_some want.post then ready else is_none want.victim

-- the want's request is posted
abbrev pub is_posted : Option Want → Bool
is_posted None = false
is_posted (Some want) = is_some want.post

-- where both are possible the turn decides; where one is possible it is done
abbrev pub choice_of : Bool → PendingValue → Choice
choice_of ready p =
    if can_ask ready p.want && (not (can_write_back p.write_backs) || is_request_turn p.turn) then Request
    else if can_write_back p.write_backs then Back else Idle

-- ---- readings and changes

-- no victim stands any more
abbrev pub without_victim : Want → Want
without_victim want = record want { victim = None }

-- the line that waits first
abbrev pub first_in : List ℕ → Option ℕ
first_in [] = None
first_in (line ∷ lines) = Some line

-- the place of a line from 0, and none where it isn't listed
abbrev pub place_in : ℕ → List ℕ → Option ℕ
place_in line [] = None
place_in line (l ∷ ls) = if l == line then Some 0 else option_map (λ n. n + 1) (place_in line ls)
