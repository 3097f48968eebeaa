-- What the machine's laws give a core within its phase.
use Rattle.std.proofs.Common.{ℕ, ◌+◌, subst}
use Rattle.pmsi_model.specs.Job.{JobValue, IsJob, text_of}
use Rattle.pmsi_model.specs.Machine.{Machine}
use Rattle.pmsi_model.specs.Phase.{Context, context_of, instructions}
use Rattle.pmsi_model.specs.Run.{machine_at}
use Rattle.pmsi_model.proofs.Boundaries.{machine_at-slot}
use Rattle.coherence_laws.proofs.Exports.{FineCore, IsWhole, whole_later, instructions_kept, whole_at}

-- ---- the facts within a phase

-- a core after so many instructions of its phase
abbrev pub context_in : JobValue → ℕ → ℕ → ℕ → Context
context_in job slot c count = instructions job.shape slot (text_of job c) count (context_of (machine_at job slot) c)

-- the machine at a boundary, where the slot counts as the next
pub whole_in : (job : JobValue) (slot : ℕ) → IsJob job → IsWhole job.shape (slot + 1) (machine_at job slot).posted (machine_at job slot).cores
whole_in job slot is = let x : Machine = machine_at job slot in
    whole_later job.shape slot x.posted x.cores (subst (λ (s : ℕ). IsWhole job.shape s x.posted x.cores) (machine_at-slot job slot) (whole_at job is slot))

-- the core after so many instructions has the facts that hold of each core
pub fine_after : (job : JobValue) (slot c count : ℕ) → IsJob job → FineCore job.shape (slot + 1) (machine_at job slot).posted c (context_in job slot c count).core
fine_after job slot c count is = let x : Machine = machine_at job slot in
    (instructions_kept job.shape slot (text_of job c) x.posted c count (context_of x c) is.shape.some_ways ((whole_in job slot is).fine c)).fine
