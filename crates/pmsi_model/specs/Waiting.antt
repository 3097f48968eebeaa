-- How long a request can wait: the slots that are left for it at a boundary at most, and the bound on its latency.
use Rattle.std.specs.Prelude.{◌≡◌, ℕ, ◌+◌, ◌-◌, ◌*◌, ◌<◌, ◌≤◌, ◌==◌, List, [], ◌∷◌, Option, Some, None, is_some, if◌then◌else◌}
use Rattle.std.specs.Option.{option_map, unwrap_or}
use Rattle.pmsi_model.specs.declared.Turn.{Turn}
use Rattle.pmsi_model.specs.declared.Turn.TheVariants.{Request as RequestTurn, WriteBack as WriteBackTurn}
use Rattle.pmsi_model.specs.declared.Want.{Want}
use Rattle.pmsi_model.specs.Job.{JobValue}
use Rattle.pmsi_model.specs.Slots.{SlotPlan, plan_of, gap_of, distance, bound_of}
use Rattle.pmsi_model.specs.Machine.{Machine, owner_of, first_of, ahead}
use Rattle.pmsi_model.specs.Run.{machine_at}

-- the place of a line in a list, counted from 0
abbrev pub place_of : ℕ → List ℕ → ℕ
place_of line [] = 0
place_of line (l ∷ lines) = if l == line then 0 else place_of line lines + 1

-- 1 where the core's turn keeps it from a write-back, or from its request, in its next own slot
abbrev pub back_delay : Turn → ℕ
back_delay RequestTurn = 1
back_delay WriteBackTurn = 0

abbrev pub request_delay : Turn → ℕ
request_delay RequestTurn = 0
request_delay WriteBackTurn = 1

-- the slots at most until core o writes back the line at this place of its lines
abbrev pub back_slots : SlotPlan → Machine → ℕ → ℕ → ℕ
back_slots plan x o place = distance plan o x.slot + gap_of plan * (2 * place + back_delay (x.cores o).turn)

-- the slots at most until core c does its request, where that is possible
abbrev pub request_slots : SlotPlan → Machine → ℕ → ℕ
request_slots plan x c = distance plan c x.slot + gap_of plan * request_delay (x.cores c).turn

-- the slots at most for each request that is ahead in the queue
abbrev pub queue_slots : SlotPlan → ℕ
queue_slots plan = 2 * gap_of plan * plan.cores + 2 * gap_of plan

-- the slots at most until a posted request of c is served: the owner of the line writes it back first, then the queue is served
abbrev pub posted_left : SlotPlan → Machine → ℕ → ℕ → Option ℕ → ℕ
posted_left plan x c line (Some o) = back_slots plan x o (place_of line (x.cores o).write_backs) + 2 * gap_of plan + ahead c line x.posted * queue_slots plan
posted_left plan x c line None = request_slots plan x (unwrap_or (first_of line x.posted) c) + ahead c line x.posted * queue_slots plan

-- the slots at most until a request of c that isn't posted is served: the victim is written back first
abbrev pub unposted_left : SlotPlan → Machine → ℕ → Option ℕ → ℕ
unposted_left plan x c None = request_slots plan x c + plan.cores * queue_slots plan
unposted_left plan x c (Some victim) = back_slots plan x c (place_of victim (x.cores c).write_backs) + 2 * gap_of plan + plan.cores * queue_slots plan

-- the slots at most that are left for a want of core c
abbrev pub left_for : SlotPlan → Machine → ℕ → Want → ℕ
left_for plan x c want =
    if is_some want.post then posted_left plan x c want.line (owner_of x plan.cores want.line) else unposted_left plan x c want.victim

-- none where the core has no want
abbrev pub slots_left : SlotPlan → Machine → ℕ → Option ℕ
slots_left plan x c = option_map (left_for plan x c) (x.cores c).want

-- at every boundary of the run, what is left for a want and its age are within the bound together
abbrev pub WaitsAreBounded : JobValue → Type 0
WaitsAreBounded job =
    (slot c : ℕ) (want : Want) → slot ≤ job.shape.slots → c < job.shape.cores → ((machine_at job slot).cores c).want ≡ Some want →
    left_for (plan_of job) (machine_at job slot) c want + (slot - want.issue) ≤ bound_of (plan_of job)
