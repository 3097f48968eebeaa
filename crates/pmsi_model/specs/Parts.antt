-- What a part of the machine has of a run: the bus.
use Rattle.std.specs.Prelude.{◌≡◌, ℕ, ◌*◌, ◌/◌, ◌<◌, ◌≤◌, [], length, slice_index, if◌then◌else◌}
use Rattle.pmsi_model.specs.Job.{JobValue}
use Rattle.pmsi_model.specs.Words.{number_of}
use Rattle.pmsi_model.specs.Slots.{plan_of, gap_of}
use Rattle.pmsi_model.specs.Machine.{Machine, owner_of}
use Rattle.pmsi_model.specs.Phase.{bytes_from}
use Rattle.pmsi_model.specs.Run.{machine_at, records}
use Rattle.pmsi_model.specs.Shared.{SharedValue, BusSide, owner_in, last_of}
use Rattle.std.specs.Prelude.{List, None}

-- word `i` of a memory of bytes
abbrev pub word_at : List ℕ → ℕ → ℕ
word_at memory i = number_of (bytes_from (4 * i) 4 memory)

-- shared memory has a machine's requests and owners, and the words of the lines that nobody owns
pub record IsSharedOf (job : JobValue) (x : Machine) (m : SharedValue) : Type 0 where
  pub shape : m.shape ≡ job.shape
  pub posted : m.posted ≡ x.posted
  pub owners : (line : ℕ) → owner_in m line ≡ owner_of x job.shape.cores line
  pub lines : length m.owners * job.shape.line_words ≡ length m.words
  pub size : 4 * length m.words ≡ job.shape.memory
  pub words : (i : ℕ) → i < length m.words → owner_of x job.shape.cores (i / job.shape.line_words) ≡ None →
      slice_index m.words i ≡ word_at x.memory i

-- a bus is that of a job at the boundary of a slot
pub record IsBusPart (job : JobValue) (slot : ℕ) (b : BusSide) : Type 0 where
  pub memory : IsSharedOf job (machine_at job slot) b.memory
  pub plan : b.plan ≡ plan_of job
  pub now : b.slot ≡ slot
  pub within : slot ≤ job.shape.slots
  pub recent : b.recent ≡ last_of (gap_of (plan_of job)) (records job slot)
  pub trace : b.trace ≡ (if b.keeps then records job slot else [])
