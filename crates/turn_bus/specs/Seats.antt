-- The seats of a shared bus.
use Rattle.std.specs.Prelude.{◌≡◌, Bool, ℕ, List}
use Rattle.pmsi_model.specs.Job.{JobValue}
use Rattle.pmsi_model.specs.Slots.{plan_of}
use Rattle.turn_bus.specs.Sharing.{Seating, AllSeated, AllAtEnd}
use Rattle.turn_bus.specs.Rule.{knowing}
use Rattle.turn_bus.specs.declared.seat.TurnSeat.{TurnSeat}
use Rattle.turn_bus.specs.declared.seat.TurnBus.{TurnBus}
use Rattle.turn_bus.specs.declared.view.View.{View}

-- what a seat knows
abbrev pub view_of : TurnSeat → View
view_of seat = seat.chair.me.0

-- a seat is one of this bus's own, and the bus has the plan of its job
pub record IsOwn (bus : TurnBus) (seat : TurnSeat) : Type 0 where
  pub table : seat.chair.table_id ≡ bus.table.shared.table_id
  pub plan : bus.plan ≡ plan_of (view_of seat).job

abbrev pub seating : TurnBus → Seating TurnSeat
seating bus = record { own = IsOwn bus; knows = λ seat. knowing (view_of seat) }

-- the seats of all cores of a job on this bus, one a core in core order, each at this count
abbrev pub AreSeats : TurnBus → JobValue → Bool → ℕ → List TurnSeat → Type 0
AreSeats bus job keeps count seats = AllSeated (seating bus) job keeps count seats

-- all seats of this bus, each after the last slot
abbrev pub CanClose : TurnBus → List TurnSeat → Type 0
CanClose bus seats = AllAtEnd (seating bus) seats
