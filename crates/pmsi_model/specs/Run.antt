-- The run of a job: the machine at each slot boundary, the actions, and the accesses in bus order.
use Rattle.std.specs.Prelude.{ℕ, zero, suc, ◌+◌, List, [], ◌∷◌, ◌++◌, Option, Some, None}
use Rattle.pmsi_model.specs.declared.Action.{Action}
use Rattle.pmsi_model.specs.declared.Action.TheVariants.{Idle, Post, Fill, PostFill, Back}
use Rattle.pmsi_model.specs.declared.Status.TheVariants.{Running}
use Rattle.pmsi_model.specs.declared.Touch.{Touch}
use Rattle.pmsi_model.specs.declared.Turn.TheVariants.{Request as RequestTurn}
use Rattle.pmsi_model.specs.declared.Want.{Want}
use Rattle.pmsi_model.specs.Job.{JobValue}
use Rattle.pmsi_model.specs.Slots.{plan_of, owner_of_slot}
use Rattle.pmsi_model.specs.Effect.{start_regs}
use Rattle.pmsi_model.specs.Machine.{Machine, CoreState}
use Rattle.pmsi_model.specs.Phase.{touch_of, phases, phases_touches}
use Rattle.pmsi_model.specs.Bus.{action_of, after_action}

abbrev pub start_core : JobValue → ℕ → CoreState
start_core job c = record {
  regs = start_regs c job.shape.cores;
  pc = 0;
  status = Running;
  retired = 0;
  held = [];
  want = None;
  write_backs = [];
  turn = RequestTurn;
}

-- the machine at the start
unfoldable pub start_of : JobValue → Machine
start_of job = record { slot = 0; memory = job.start; posted = []; cores = start_core job }

-- the machine when each core has done its phase of the slot
abbrev pub after_phases : JobValue → Machine → Machine
after_phases job x = phases job job.shape.cores x

-- the core that owns the slot
abbrev pub slot_owner : JobValue → Machine → ℕ
slot_owner job x = owner_of_slot (plan_of job) x.slot

-- its action in the slot
abbrev pub slot_action : JobValue → Machine → Action
slot_action job x = action_of job (after_phases job x) (slot_owner job x)

-- one slot: each core's phase, in core order, and then the owner's action
unfoldable pub slot_done : JobValue → Machine → Machine
slot_done job x = record (after_action (after_phases job x) (slot_owner job x) (slot_action job x)) { slot = x.slot + 1 }

-- the machine at the boundary after so many slots
unfoldable pub machine_at : JobValue → ℕ → Machine
machine_at job zero = start_of job
machine_at job (suc slot) = slot_done job (machine_at job slot)

-- the action of a slot
abbrev pub record_at : JobValue → ℕ → Action
record_at job slot = slot_action job (machine_at job slot)

-- the actions of the first slots
unfoldable pub records : JobValue → ℕ → List Action
records job zero = []
records job (suc slot) = records job slot ++ record_at job slot ∷ []

-- the access of a fill
abbrev pub want_touch : Machine → ℕ → Option Want → List Touch
want_touch x c None = []
want_touch x c (Some want) = touch_of x.slot c want.access x.memory ∷ []

abbrev pub action_touch : Machine → ℕ → Action → List Touch
action_touch x c Idle = []
action_touch x c (Post name line) = []
action_touch x c (Fill line) = want_touch x c (x.cores c).want
action_touch x c (PostFill name line) = want_touch x c (x.cores c).want
action_touch x c (Back line kept) = []

-- the accesses of a slot: those of the phases by core number and program order, and last that of the fill
abbrev pub slot_touches : JobValue → Machine → List Touch
slot_touches job x = phases_touches job job.shape.cores x ++ action_touch (after_phases job x) (slot_owner job x) (slot_action job x)

-- the accesses of the first slots, in bus order
unfoldable pub touches_of : JobValue → ℕ → List Touch
touches_of job zero = []
touches_of job (suc slot) = touches_of job slot ++ slot_touches job (machine_at job slot)
