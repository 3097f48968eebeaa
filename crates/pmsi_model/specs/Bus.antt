-- What the owner of a slot does on the bus, and what each action does to the machine.
use Rattle.std.specs.Prelude.{ℕ, List, [], ◌∷◌, ◌++◌, drop, Bool, true, false, not, ◌==◌, ◌&&◌, ◌||◌, Option, Some, None, is_some, is_none, if◌then◌else◌}
use Rattle.std.specs.Option.{option_map}
use Rattle.pmsi_model.specs.declared.Action.{Action}
use Rattle.pmsi_model.specs.declared.Action.TheVariants.{Idle, Post, Fill, PostFill, Back}
use Rattle.pmsi_model.specs.declared.Kind.{Kind}
use Rattle.pmsi_model.specs.declared.Kind.TheVariants.{Read, Write}
use Rattle.pmsi_model.specs.declared.Mode.{Mode}
use Rattle.pmsi_model.specs.declared.Mode.TheVariants.{Shared, Modified}
use Rattle.pmsi_model.specs.declared.Name.{Name}
use Rattle.pmsi_model.specs.declared.Name.TheVariants.{GetS, GetM, Upg}
use Rattle.pmsi_model.specs.declared.Turn.{Turn}
use Rattle.pmsi_model.specs.declared.Turn.TheVariants.{Request as RequestTurn, WriteBack as WriteBackTurn}
use Rattle.pmsi_model.specs.declared.Want.{Want}
use Rattle.pmsi_model.specs.Job.{JobValue}
use Rattle.pmsi_model.specs.Phase.{met_bytes, memory_after, retired_with}
use Rattle.pmsi_model.specs.Machine.{Machine, CoreState, with_core, mode_of, is_shared, without, to_front, with_mode, append_once, is_write, first_of, has_request, has_write, removed, mode_in, nobody_owns}

-- ---- what is possible

abbrev pub is_core : ℕ → Option ℕ → Bool
is_core c None = false
is_core c (Some d) = d == c

-- the request of core c is the first of the line's queue, and nobody owns the line
abbrev pub is_served : JobValue → Machine → ℕ → ℕ → Bool
is_served job x c line = is_core c (first_of line x.posted) && nobody_owns x job.shape.cores line

-- an unposted request is possible where no victim stands, a posted one where it can be served
abbrev pub can_request_for : JobValue → Machine → ℕ → Option Want → Bool
can_request_for job x c None = false
can_request_for job x c (Some want) = if is_some want.post then is_served job x c want.line else is_none want.victim

abbrev pub can_request : JobValue → Machine → ℕ → Bool
can_request job x c = can_request_for job x c (x.cores c).want

-- a write-back is possible where a line waits for it
abbrev pub can_write_back : List ℕ → Bool
can_write_back [] = false
can_write_back (line ∷ lines) = true

abbrev pub is_request_turn : Turn → Bool
is_request_turn RequestTurn = true
is_request_turn WriteBackTurn = false

-- where both are possible, the turn decides
abbrev pub requests_now : JobValue → Machine → ℕ → Bool
requests_now job x c = can_request job x c && (not (can_write_back (x.cores c).write_backs) || is_request_turn (x.cores c).turn)

-- ---- post

abbrev pub kind_of_name : Name → Kind
kind_of_name GetS = Read
kind_of_name GetM = Write
kind_of_name Upg = Write

-- Upg for a write of a line that is held shared, GetM for another write, GetS for a read
abbrev pub name_of : Kind → Option Mode → Name
name_of Read mode = GetS
name_of Write mode = if is_shared mode then Upg else GetM

-- another core snoops a post: a write invalidates its shared copy, and an owner's line is queued for write-back
abbrev pub noted_post_in : Kind → ℕ → Option Mode → CoreState → CoreState
noted_post_in kind line None k = k
noted_post_in kind line (Some Shared) k = if is_write kind then record k { held = without line k.held } else k
noted_post_in kind line (Some Modified) k = record k { write_backs = append_once line k.write_backs }

abbrev pub noted_post : Kind → ℕ → CoreState → CoreState
noted_post kind line k = noted_post_in kind line (mode_of line k.held) k

-- the request goes last in the line's queue
abbrev pub post_at : ℕ → Want → Want
post_at slot want = record want { post = Some slot }

unfoldable pub post : Machine → ℕ → Kind → ℕ → Machine
post x c kind line = record x {
  posted = x.posted ++ record { core = c; line = line; kind = kind } ∷ [];
  cores = λ d. if d == c
      then record (x.cores c) { want = option_map (post_at x.slot) (x.cores c).want; turn = WriteBackTurn }
      else noted_post kind line (x.cores d);
}

-- ---- fill

-- a write makes the line modified; a read makes it shared, unless a write is queued behind, and then leaves no copy
abbrev pub filled_line : Kind → Bool → ℕ → List (ℕ × Mode) → List (ℕ × Mode)
filled_line Write write_behind line held = to_front line Modified held
filled_line Read write_behind line held = if write_behind then held else to_front line Shared held

-- who owns the line now, with requests behind, has to write it back
abbrev pub append_demanded : Kind → Bool → ℕ → List ℕ → List ℕ
append_demanded Read behind line lines = lines
append_demanded Write behind line lines = if behind then lines ++ line ∷ [] else lines

-- the request leaves the queue, the access is done, the instruction retires, and the want ends
abbrev pub fill_for : Machine → ℕ → Option Want → Machine
fill_for x c None = x
fill_for x c (Some want) =
    let rest = removed c x.posted in
    let k = retired_with want.access (met_bytes want.access x.memory) (x.cores c) in
    with_core (record x { posted = rest; memory = memory_after want.access x.memory }) c (record k {
      held = filled_line want.kind (has_write want.line rest) want.line k.held;
      want = None;
      write_backs = append_demanded want.kind (has_request want.line rest) want.line k.write_backs;
      turn = WriteBackTurn;
    })

unfoldable pub fill : Machine → ℕ → Machine
fill x c = fill_for x c (x.cores c).want

-- ---- write-back

abbrev pub has_victim_for : ℕ → Option Want → Bool
has_victim_for line None = false
has_victim_for line (Some want) = is_core line want.victim

-- a line that is written back stays shared exactly where reads alone are queued for it and it isn't the core's victim
abbrev pub keeps_line : Machine → ℕ → ℕ → Bool
keeps_line x c line = has_request line x.posted && not (has_write line x.posted) && not (has_victim_for line (x.cores c).want)

abbrev pub clear_victim : ℕ → Want → Want
clear_victim line want = if is_core line want.victim then record want { victim = None } else want

-- the line leaves the lines to write back
unfoldable pub write_back : Machine → ℕ → ℕ → Bool → Machine
write_back x c line kept = let k = x.cores c in with_core x c (record k {
  held = if kept then with_mode line Shared k.held else without line k.held;
  want = option_map (clear_victim line) k.want;
  write_backs = drop 1 k.write_backs;
  turn = RequestTurn;
})

-- ---- the action

-- a request is filled in the slot of its post where it can be served at once
abbrev pub post_action : JobValue → Machine → ℕ → Want → Action
post_action job x c want =
    let name = name_of want.kind (mode_in x c want.line) in
    if is_served job (post x c want.kind want.line) c want.line then PostFill name want.line else Post name want.line

abbrev pub request_action : JobValue → Machine → ℕ → Option Want → Action
request_action job x c None = Idle
request_action job x c (Some want) = if is_some want.post then Fill want.line else post_action job x c want

abbrev pub back_action : Machine → ℕ → List ℕ → Action
back_action x c [] = Idle
back_action x c (line ∷ lines) = Back line (keeps_line x c line)

-- the action of core c, which owns the slot
unfoldable pub action_of : JobValue → Machine → ℕ → Action
action_of job x c = if requests_now job x c then request_action job x c (x.cores c).want else back_action x c (x.cores c).write_backs

-- the machine after an action of core c
unfoldable pub after_action : Machine → ℕ → Action → Machine
after_action x c Idle = x
after_action x c (Post name line) = post x c (kind_of_name name) line
after_action x c (Fill line) = fill x c
after_action x c (PostFill name line) = fill (post x c (kind_of_name name) line) c
after_action x c (Back line kept) = write_back x c line kept
