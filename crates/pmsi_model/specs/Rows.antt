-- The requests of a run: those that were served, and those that are still open.
use Rattle.std.specs.Prelude.{ℕ, zero, suc, ◌+◌, ◌-◌, ◌<◌, ◌≤◌, List, [], ◌∷◌, ◌++◌, Option, Some, None}
use Rattle.std.specs.Option.{unwrap_or}
use Rattle.pmsi_model.specs.declared.Action.{Action}
use Rattle.pmsi_model.specs.declared.Action.TheVariants.{Idle, Post, Fill, PostFill, Back}
use Rattle.pmsi_model.specs.declared.OpenRow.{OpenRow}
use Rattle.pmsi_model.specs.declared.Row.{Row}
use Rattle.pmsi_model.specs.declared.Want.{Want}
use Rattle.pmsi_model.specs.Job.{JobValue}
use Rattle.pmsi_model.specs.Machine.{Machine}
use Rattle.pmsi_model.specs.Run.{machine_at, after_phases, slot_owner, record_at}

-- the row of a request that is served in a slot; one that is posted and served in it has that slot as its post
abbrev pub row_of : ℕ → ℕ → Option Want → List Row
row_of slot c None = []
row_of slot c (Some want) = record { core = c; line = want.line; kind = want.kind; issue = want.issue; post = unwrap_or want.post slot; fill = slot } ∷ []

abbrev pub action_row : Machine → ℕ → Action → List Row
action_row x c Idle = []
action_row x c (Post name line) = []
action_row x c (Fill line) = row_of x.slot c (x.cores c).want
action_row x c (PostFill name line) = row_of x.slot c (x.cores c).want
action_row x c (Back line kept) = []

-- the requests that are served in a slot: one at most
abbrev pub slot_rows : JobValue → Machine → Action → List Row
slot_rows job x action = action_row (after_phases job x) (slot_owner job x) action

-- the requests served in the first slots, by the slot of their fill
unfoldable pub rows_of : JobValue → ℕ → List Row
rows_of job zero = []
rows_of job (suc slot) = rows_of job slot ++ slot_rows job (machine_at job slot) (record_at job slot)

-- the slots that a request waited, that of its miss and that of its fill counted
abbrev pub wait_of : Row → ℕ
wait_of row = row.fill - row.issue + 1

-- a request that was served before a boundary: it was issued, posted and filled in this order
pub record IsInOrder (slot : ℕ) (row : Row) : Type 0 where
  pub issued : row.issue ≤ row.post
  pub posted : row.post ≤ row.fill
  pub filled : row.fill < slot

abbrev pub open_row_of : ℕ → Option Want → Option OpenRow
open_row_of c None = None
open_row_of c (Some want) = Some (record { core = c; line = want.line; kind = want.kind; issue = want.issue; post = want.post })

abbrev pub option_list : Option OpenRow → List OpenRow
option_list None = []
option_list (Some row) = row ∷ []

-- the open requests of the first `count` cores
abbrev pub open_rows_in : Machine → ℕ → List OpenRow
open_rows_in x zero = []
open_rows_in x (suc count) = open_rows_in x count ++ option_list (open_row_of count (x.cores count).want)

-- the requests that are open at a boundary, by core
abbrev pub open_rows_of : JobValue → ℕ → List OpenRow
open_rows_of job slot = open_rows_in (machine_at job slot) job.shape.cores

-- the slots that an open request has waited
abbrev pub age_of : ℕ → OpenRow → ℕ
age_of slot row = slot - row.issue
