-- The phases of all cores in core order, against the phase of each core alone; and memory keeps its size.
use Rattle.std.specs.Prelude.{◌≡◌, ◌≢◌, ℕ, ◌*◌, ◌<◌, List, length, true, None}
use Rattle.std.specs.List.{All}
use Rattle.pmsi_model.specs.declared.job.Geometry.{Geometry}
use Rattle.pmsi_model.specs.Geometry.{line_bytes}
use Rattle.pmsi_model.specs.Job.{JobValue, IsJob}
use Rattle.pmsi_model.specs.Machine.{Machine, mode_of, nobody_owns, owner_of}
use Rattle.pmsi_model.specs.Phase.{bytes_from, phase, phase_touches, phases_touches, touches_by}
use Rattle.pmsi_model.specs.Run.{machine_at, after_phases}

-- the bytes of a line
abbrev pub line_bytes_in : Geometry → ℕ → List ℕ → List ℕ
line_bytes_in shape line memory = bytes_from (line * line_bytes shape) (line_bytes shape) memory

-- what the phases of all cores in core order come to, against the phase of one core alone, from the same machine
pub record IsApart (job : JobValue) (x : Machine) : Type 0 where
  -- each core is as after its phase alone
  pub own : (c : ℕ) → c < job.shape.cores → (after_phases job x).cores c ≡ (phase job c x).cores c
  -- and so are the bytes of each line that it then holds
  pub held : (c line : ℕ) → c < job.shape.cores → mode_of line ((phase job c x).cores c).held ≢ None →
      line_bytes_in job.shape line (after_phases job x).memory ≡ line_bytes_in job.shape line (phase job c x).memory
  -- and so are its accesses
  pub touches : (c : ℕ) → c < job.shape.cores → touches_by c (phases_touches job job.shape.cores x) ≡ phase_touches job c x
  -- the bytes of a line that nobody owns stay
  pub unowned : (line : ℕ) → nobody_owns (after_phases job x) job.shape.cores line ≡ true →
      line_bytes_in job.shape line (after_phases job x).memory ≡ line_bytes_in job.shape line x.memory
  -- owners stay
  pub owner : (line : ℕ) → owner_of (after_phases job x) job.shape.cores line ≡ owner_of x job.shape.cores line

-- in each slot
abbrev pub PhasesAreApart : Type 0
PhasesAreApart = (job : JobValue) → IsJob job → (slot : ℕ) → IsApart job (machine_at job slot)

-- memory has the job's size, and is bytes
pub record IsMemoryOf (job : JobValue) (memory : List ℕ) : Type 0 where
  pub size : length memory ≡ job.shape.memory
  pub bytes : All (λ byte. byte < 256) memory

-- at each boundary, when all cores have done their phases of the slot, and when one core has done its phase alone
abbrev pub StaysMemory : Type 0
StaysMemory = (job : JobValue) → IsJob job → (slot : ℕ) →
    IsMemoryOf job (machine_at job slot).memory
    × IsMemoryOf job (after_phases job (machine_at job slot)).memory
    × ((c : ℕ) → IsMemoryOf job (phase job c (machine_at job slot)).memory)
