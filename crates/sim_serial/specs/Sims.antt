-- A Sim and the written machine that it is.
use Rattle.std.specs.Prelude.{◌≡◌, ℕ, List}
use Rattle.pmsi_model.specs.declared.Keep.{Keep}
use Rattle.pmsi_model.specs.declared.job.Geometry.{Geometry}
use Rattle.pmsi_model.specs.Job.{JobValue}
use Rattle.pmsi_model.specs.Coherent.{IsCoherent}
use Rattle.pmsi_model.specs.Run.{machine_at}
use Rattle.pmsi_model.specs.Shared.{BusSide}
use Rattle.core_unit.specs.declared.state.State.{State}
use Rattle.sim_serial.specs.Cores.{AreWith, CoresKeep}

-- the cores, by their number, and the bus
pub record SimValue : Type 0 where
  pub cores : List State
  pub bus : BusSide

abbrev pub sim_with : List State → BusSide → SimValue
sim_with cores bus = record { cores = cores; bus = bus }

-- what a Sim keeps: its bus the actions of all slots, and each of its cores its accesses
pub record Keeps (keep : Keep) (sim : SimValue) : Type 0 where
  pub trace : sim.bus.keeps ≡ keep.trace
  pub touches : CoresKeep keep.touches sim.cores

-- a Sim is the written machine of a job after so many slots: so are its cores, and its bus
abbrev pub IsSimOf : JobValue → ℕ → SimValue → Type 0
IsSimOf job slot sim = AreWith job slot sim.cores sim.bus

-- the slot and the shape that a Sim has
abbrev pub slot_of : SimValue → ℕ
slot_of sim = sim.bus.slot

abbrev pub shape_of : SimValue → Geometry
shape_of sim = sim.bus.memory.shape

-- a Sim is that of some job, at its slot, and so is coherent
pub record IsSim (sim : SimValue) : Type 0 where
  pub job : JobValue
  pub at : IsSimOf job sim.bus.slot sim
  pub coherent : IsCoherent job.shape (machine_at job sim.bus.slot)

-- cores and a bus that can be joined: each core of a machine once, in core order, at one slot boundary and with the bus's
-- machine, all opened to keep the same
pub record CanJoin (cores : List State) (bus : BusSide) : Type 0 where
  pub job : JobValue
  pub slot : ℕ
  pub keep : Keep
  pub at : AreWith job slot cores bus
  pub keeps : Keeps keep (sim_with cores bus)
