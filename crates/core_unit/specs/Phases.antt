-- A core within its phase of a slot.
use Rattle.std.specs.Prelude.{◌≡◌, ℕ, ◌+◌, ◌*◌, ◌<◌, ◌≤◌, List, ◌++◌}
use Rattle.pmsi_model.specs.declared.Touch.{Touch}
use Rattle.pmsi_model.specs.Job.{JobValue, text_of}
use Rattle.pmsi_model.specs.Phase.{context_of, instruction_touches, instructions}
use Rattle.pmsi_model.specs.Run.{machine_at}
use Rattle.core_unit.specs.declared.state.State.{State}
use Rattle.core_unit.specs.Stands.{KnowsStates, StandsFor}
use Rattle.core_unit.specs.Parts.{HasRows, HasTouches, own_touches}

-- a core's accesses in the first slots, and in so many instructions of the phase
abbrev pub touches_in : JobValue → ℕ → ℕ → ℕ → List Touch
touches_in job slot c count =
    own_touches job slot c ++ instruction_touches job.shape slot c (text_of job c) count (context_of (machine_at job slot) c)

-- so many instructions of the phase of a slot are taken
pub record IsInPhase (job : JobValue) (slot c count : ℕ) (v : State) : Type 0 where
  pub stands : StandsFor job c (instructions job.shape slot (text_of job c) count (context_of (machine_at job slot) c)) v
  pub knows : KnowsStates (machine_at job slot).posted c v
  pub now : v.slot ≡ slot
  pub more : slot < job.shape.slots
  pub most : count ≤ job.shape.quantum
  pub rows : HasRows job slot c v
  pub touches : HasTouches job (touches_in job slot c count) (slot * job.shape.quantum + count) v
