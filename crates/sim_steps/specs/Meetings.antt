-- A core that meets its bus, each at a slot of its own.
use Rattle.std.specs.Prelude.{◌≡◌, ℕ, ◌+◌, Option, Some, None, false}
use Rattle.pmsi_model.specs.declared.Action.{Action}
use Rattle.pmsi_model.specs.Job.{JobValue}
use Rattle.pmsi_model.specs.Run.{record_at}
use Rattle.pmsi_model.specs.Shared.{BusSide}
use Rattle.pmsi_model.specs.Parts.{IsBusPart}
use Rattle.pmsi_model.specs.Spreads.{Fits, IsMeet, goes_on, turn_after}
use Rattle.core_unit.specs.declared.state.State.{State}
use Rattle.core_unit.specs.Parts.{IsPart, IsPartAfter}

-- a core and its bus
pub record Pair : Type 0 where
  pub core : State
  pub bus : BusSide

abbrev pub pair : State → BusSide → Pair
pair core bus = record { core = core; bus = bus }

-- where they stand: the core's number, its count, and the bus's turn
pub record Standing : Type 0 where
  pub core : ℕ
  pub count : ℕ
  pub turn : ℕ

abbrev pub standing : ℕ → ℕ → ℕ → Standing
standing core count turn = record { core = core; count = count; turn = turn }

-- a core whose phase is done, and a bus, of one job: the core's count and the bus's turn fit
pub record AreMeeting (job : JobValue) (at : Standing) (v : Pair) : Type 0 where
  pub part : IsPartAfter job at.count at.core v.core
  pub side : IsBusPart job at.turn v.bus
  pub fits : Fits job at.core at.count at.turn

-- of some job
pub record CanMeet (v : Pair) : Type 0 where
  pub job : JobValue
  pub core : ℕ
  pub count : ℕ
  pub turn : ℕ
  pub at : AreMeeting job (standing core count turn) v

-- one Meet: the core's slot is over, with the machine's action
pub record HaveMet (job : JobValue) (at : Standing) (action : Action) (v w : Pair) : Type 0 where
  pub meet : IsMeet job at.core at.count at.turn (at.count + 1) (turn_after job at.core at.count at.turn)
  pub what : action ≡ record_at job at.count
  pub part : IsPart job (at.count + 1) at.core w.core
  pub side : IsBusPart job (turn_after job at.core at.count at.turn) w.bus
  pub keeps : w.core.keeps ≡ v.core.keeps
  pub bus_keeps : w.bus.keeps ≡ v.bus.keeps

-- the core has to wait for the bus, and nothing changed
pub record AreWaiting (job : JobValue) (at : Standing) (v w : Pair) : Type 0 where
  pub waits : goes_on job at.core at.count at.turn ≡ false
  pub core : w.core ≡ v.core
  pub side : w.bus ≡ v.bus

abbrev pub IsMeeting : JobValue → Standing → Pair → Pair → Option Action → Type 0
IsMeeting job at v w None = AreWaiting job at v w
IsMeeting job at v w (Some action) = HaveMet job at action v w

-- what comes of it, for each job that it can be of
abbrev pub Meets : Pair → Pair → Option Action → Type 0
Meets v w result =
    (job : JobValue) (core count turn : ℕ) → AreMeeting job (standing core count turn) v → IsMeeting job (standing core count turn) v w result
