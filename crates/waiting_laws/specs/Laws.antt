-- The laws of waiting.
use Rattle.std.specs.Prelude.{◌≡◌, ℕ, ◌+◌, ◌<◌, ◌≤◌, Some}
use Rattle.std.specs.List.{All}
use Rattle.pmsi_model.specs.declared.Want.{Want}
use Rattle.pmsi_model.specs.Job.{JobValue, IsJob}
use Rattle.pmsi_model.specs.Slots.{plan_of, bound_of}
use Rattle.pmsi_model.specs.Run.{machine_at}
use Rattle.pmsi_model.specs.Rows.{rows_of, wait_of, open_rows_of, age_of, IsInOrder}
use Rattle.pmsi_model.specs.Waiting.{left_for, WaitsAreBounded}

-- what is left for a want that still stands after a slot has fallen by one at least
abbrev pub LeftFalls : Type 0
LeftFalls =
    (job : JobValue) → IsJob job → (slot c : ℕ) (want later : Want) → c < job.shape.cores →
    ((machine_at job slot).cores c).want ≡ Some want → ((machine_at job (slot + 1)).cores c).want ≡ Some later →
    left_for (plan_of job) (machine_at job (slot + 1)) c later + 1 ≤ left_for (plan_of job) (machine_at job slot) c want

-- a want that began in a slot and outlives it has less than the bound left
abbrev pub StartsBelowBound : Type 0
StartsBelowBound =
    (job : JobValue) → IsJob job → (slot c : ℕ) (want : Want) → c < job.shape.cores →
    ((machine_at job (slot + 1)).cores c).want ≡ Some want → want.issue ≡ slot →
    left_for (plan_of job) (machine_at job (slot + 1)) c want + 1 ≤ bound_of (plan_of job)

-- something is left for every want
abbrev pub LeftIsSome : Type 0
LeftIsSome =
    (job : JobValue) → IsJob job → (slot c : ℕ) (want : Want) → c < job.shape.cores → ((machine_at job slot).cores c).want ≡ Some want →
    1 ≤ left_for (plan_of job) (machine_at job slot) c want

-- every wait is within the bound
abbrev pub AlwaysBounded : Type 0
AlwaysBounded = (job : JobValue) → IsJob job → WaitsAreBounded job

-- so every completed row waits at most the bound, and every open request is younger
abbrev pub RowsAreBounded : Type 0
RowsAreBounded =
    (job : JobValue) → IsJob job → (slot : ℕ) → slot ≤ job.shape.slots →
    All (λ row. wait_of row ≤ bound_of (plan_of job)) (rows_of job slot)
    × All (λ row. age_of slot row < bound_of (plan_of job)) (open_rows_of job slot)

-- every completed row's request was issued, posted and filled in this order, and before the boundary
abbrev pub RowsAreInOrder : Type 0
RowsAreInOrder = (job : JobValue) → IsJob job → (slot : ℕ) → All (IsInOrder slot) (rows_of job slot)
