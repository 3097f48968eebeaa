-- What a core has on the bus, at every place that a Sim is of.
use Rattle.std.specs.Prelude.{◌≡◌, ℕ, true, Some}
use Rattle.std.specs.Option.{option_map}
use Rattle.pmsi_model.specs.Job.{JobValue}
use Rattle.pmsi_model.specs.Machine.{has_line, request_of}
use Rattle.pmsi_model.specs.Run.{machine_at}
use Rattle.sim_serial.specs.Sims.{IsSimOf, SimValue}

-- core c has this line to write back
abbrev pub HasToWriteBack : ℕ → ℕ → SimValue → Type 0
HasToWriteBack c line sim = (job : JobValue) (slot : ℕ) → IsSimOf job slot sim → has_line line ((machine_at job slot).cores c).write_backs ≡ true

-- core c has a posted request for this line
abbrev pub HasPosted : ℕ → ℕ → SimValue → Type 0
HasPosted c line sim = (job : JobValue) (slot : ℕ) → IsSimOf job slot sim → option_map (λ r. r.line) (request_of c (machine_at job slot).posted) ≡ Some line
