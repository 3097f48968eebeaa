-- The whole run: memory goes as the accesses say.
use Rattle.std.proofs.Common.{◌≡◌, ℕ, zero, suc, ◌%◌, List, get_or, subst}
use Rattle.pmsi_model.specs.declared.Touch.{Touch}
use Rattle.pmsi_model.specs.Job.{JobValue, IsJob}
use Rattle.pmsi_model.specs.Machine.{Machine}
use Rattle.pmsi_model.specs.Phase.{phases_touches}
use Rattle.pmsi_model.specs.Bus.{action_of, after_action}
use Rattle.pmsi_model.specs.Run.{start_of, after_phases, slot_done, machine_at, action_touch, slot_touches, touches_of, slot_owner}
use Rattle.latest_laws.specs.Laws.{AlwaysReadsLatest}
use Rattle.latest_laws.proofs.Follows.{Takes, takes_at, follows_none}
use Rattle.pmsi_model.proofs.Effects.{whole_words}
use Rattle.latest_laws.proofs.Phases.{AllReady, Moves, moves_append, all_ready_after, phases_move}
use Rattle.latest_laws.proofs.Actions.{action_moves}

-- one slot
slot_moves : (job : JobValue) (x : Machine) → job.shape.memory % 4 ≡ 0 → AllReady job.shape.memory x → Moves job.shape.memory x (slot_touches job x) (slot_done job x)
unfolding slot_done
slot_moves job x whole h =
    let y : Machine = after_phases job x in
    let c : ℕ = slot_owner job x in
    let z : Machine = after_action y c (action_of job y c) in
    let first : Moves job.shape.memory x (phases_touches job job.shape.cores x) y = phases_move job job.shape.cores x whole h in
    let moves : Moves job.shape.memory x (slot_touches job x) z =
    moves_append job.shape.memory x y z (phases_touches job job.shape.cores x) (action_touch y c (action_of job y c)) first
    (action_moves job.shape.memory y c (action_of job y c) (all_ready_after job.shape.memory x y (phases_touches job job.shape.cores x) h first)) in
    record { memory = moves.memory; wants = moves.wants }

start_ready : (job : JobValue) → IsJob job → AllReady job.shape.memory (start_of job)
unfolding start_of
start_ready job h = record { bytes = h.bytes; extent = h.start; wants = λ c. tt }

-- so many slots
run_moves : (job : JobValue) (slot : ℕ) → job.shape.memory % 4 ≡ 0 → AllReady job.shape.memory (start_of job) → Moves job.shape.memory (start_of job) (touches_of job slot) (machine_at job slot)
unfolding machine_at touches_of
run_moves job zero whole h = record { memory = follows_none (start_of job).memory h.bytes; wants = h.wants }
run_moves job (suc slot) whole h =
    let y : Machine = machine_at job slot in
    let first : Moves job.shape.memory (start_of job) (touches_of job slot) y = run_moves job slot whole h in
    moves_append job.shape.memory (start_of job) y (slot_done job y) (touches_of job slot) (slot_touches job y) first
    (slot_moves job y whole (all_ready_after job.shape.memory (start_of job) y (touches_of job slot) h first))

run_from_start : (job : JobValue) → IsJob job → (slot : ℕ) → Moves job.shape.memory (start_of job) (touches_of job slot) (machine_at job slot)
run_from_start job h slot = run_moves job slot (whole_words job.shape.memory job.shape.line_words h.shape.memory) (start_ready job h)

-- at each boundary memory has its size, its bytes are bytes, and each want's access is within it
pub run_ready : (job : JobValue) → IsJob job → (slot : ℕ) → AllReady job.shape.memory (machine_at job slot)
run_ready job h slot = all_ready_after job.shape.memory (start_of job) (machine_at job slot) (touches_of job slot) (start_ready job h) (run_from_start job h slot)

-- each access took the latest write before it, in the form by recursion
pub run_takes : (job : JobValue) → IsJob job → (slot : ℕ) → Takes (λ at. get_or job.start at 0) (touches_of job slot)
unfolding start_of
run_takes job h slot = (run_from_start job h slot).memory.takes

pub always_reads_latest : AlwaysReadsLatest
always_reads_latest job h earlier later touch same =
    let found : ℕ → ℕ = λ at. get_or job.start at 0 in
    let taken = takes_at found earlier later touch (subst (λ (touches : List Touch). Takes found touches) same (run_takes job h job.shape.slots)) in
    record { old = taken.0; same = taken.1 }
