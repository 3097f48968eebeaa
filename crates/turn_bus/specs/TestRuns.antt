-- What tests know of the cores of a job and their seats, while each is in a slot of its own.
use Rattle.std.specs.Prelude.{◌≡◌, ℕ, ◌<◌, List, [], true, length, slice_index_or}
use Rattle.pmsi_model.specs.Job.{JobValue, IsJob}
use Rattle.core_unit.specs.declared.state.State.{State}
use Rattle.turn_bus.specs.Answers.{StandsAt}
use Rattle.turn_bus.specs.Sharing.{IsSeat, stage}
use Rattle.turn_bus.specs.Seats.{seating, view_of}
use Rattle.turn_bus.specs.declared.seat.TurnSeat.{TurnSeat}
use Rattle.turn_bus.specs.declared.seat.TurnBus.{TurnBus}

-- the seat of core `c`, at its own count
abbrev pub IsHere : TurnBus → JobValue → ℕ → TurnSeat → Type 0
IsHere bus job c seat = IsSeat (seating bus) (stage job true (view_of seat).count job.shape.cores) c seat

-- the seats of all cores of a job on this bus, none of them joined, and the cores with them
pub record AreHere (bus : TurnBus) (job : JobValue) (seats : List TurnSeat) (cores : List State) : Type 0 where
  pub within : IsJob job
  pub all_seats : length seats ≡ job.shape.cores
  pub all_cores : length cores ≡ job.shape.cores
  pub seat : (c : ℕ) (x : TurnSeat) → c < job.shape.cores → IsHere bus job c (slice_index_or seats c x)
  pub none_joined : (x : TurnSeat) → (view_of (slice_index_or seats 0 x)).joined ≡ []
  pub stands : (c : ℕ) (x : TurnSeat) (v : State) → c < job.shape.cores → StandsAt (view_of (slice_index_or seats c x)) (slice_index_or cores c v)
