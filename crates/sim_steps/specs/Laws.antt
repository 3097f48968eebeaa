-- Laws over lists of steps.
use Rattle.std.specs.Prelude.{◌≡◌, ℕ, ◌<◌, List, slice_index_or, false}
use Rattle.pmsi_model.specs.declared.step.Step.{Step}
use Rattle.pmsi_model.specs.Job.{JobValue}
use Rattle.pmsi_model.specs.Run.{records}
use Rattle.pmsi_model.specs.Parts.{IsBusPart}
use Rattle.pmsi_model.specs.Spreads.{Counts, Fits, core_in, counts_after, is_own}
use Rattle.bus_core.specs.Agree.{BusesAgree}
use Rattle.core_unit.specs.declared.state.State.{State}
use Rattle.core_unit.specs.Laws.{ReadAlike}
use Rattle.core_unit.specs.Parts.{IsPart}
use Rattle.sim_steps.specs.declared.took.Took.TheVariants.{NotYet}
use Rattle.sim_steps.specs.Took.{took}
use Rattle.sim_steps.specs.Cores.{IsAt}
use Rattle.sim_steps.specs.Spreads.{IsSpreadOf, SpreadValue}

-- the machine's cores and its bus, each at its own count, and how far apart they can be
pub record AreApart (job : JobValue) (k : Counts) (v : SpreadValue) : Type 0 where
  pub core : (c : ℕ) (other : State) → c < job.shape.cores → IsAt job (k.count c) c (k.marked c) (slice_index_or v.cores c other)
  pub fits : (c : ℕ) → Fits job c (k.count c) k.turn
  pub bus : IsBusPart job k.turn v.bus
  pub trace : v.bus.trace ≡ records job k.turn

-- whatever the steps were and their order, a Spread is the machine, in parts
abbrev pub SpreadsAreParts : Type 0
SpreadsAreParts = (job : JobValue) (steps : List Step) (v : SpreadValue) → IsSpreadOf job steps v → AreApart job (counts_after job steps) v

-- a core waits for the bus only where the bus stands at the core's slot, which isn't its own
abbrev pub WaitsAtItsSlot : Type 0
WaitsAtItsSlot = (job : JobValue) (steps : List Step) (step : Step) (turn : ℕ) → took job step (counts_after job steps) ≡ NotYet turn →
    (turn ≡ (counts_after job steps).count (core_in step)) × (is_own job (core_in step) turn ≡ false)

-- ---- the end

-- each core's slots are over
abbrev pub AllOver : JobValue → Counts → Type 0
AllOver job k = (c : ℕ) → c < job.shape.cores → k.count c ≡ job.shape.slots

-- the machine of a job after its last slot
pub record IsEnd (job : JobValue) (v : SpreadValue) : Type 0 where
  pub core : (c : ℕ) (other : State) → c < job.shape.cores → IsPart job job.shape.slots c (slice_index_or v.cores c other)
  pub bus : IsBusPart job job.shape.slots v.bus

abbrev pub EndsAreAlike : Type 0
EndsAreAlike = (job : JobValue) (steps : List Step) (v : SpreadValue) → AllOver job (counts_after job steps) → IsSpreadOf job steps v → IsEnd job v

-- all that can be read of the first so many cores, and of the buses, is equal
pub record SpreadsAgree (count : ℕ) (v w : SpreadValue) : Type 0 where
  pub cores : (c : ℕ) (other : State) → c < count → ReadAlike (slice_index_or v.cores c other) (slice_index_or w.cores c other)
  pub bus : BusesAgree v.bus w.bus

-- two lists of steps that bring each core to the end
abbrev pub EndsAreEqual : Type 0
EndsAreEqual = (job : JobValue) (steps others : List Step) (v w : SpreadValue) → AllOver job (counts_after job steps) →
    AllOver job (counts_after job others) → IsSpreadOf job steps v → IsSpreadOf job others w → SpreadsAgree job.shape.cores v w
