-- The seats of a shared bus.
use Rattle.std.specs.Prelude.{◌≡◌, Bool, ℕ, List}
use Rattle.pmsi_model.specs.Job.{JobValue}
use Rattle.turn_bus.specs.Sharing.{Seating, AllSeated, AllAtEnd}
use Rattle.bus_lock.specs.Rule.{knowing}
use Rattle.bus_lock.specs.declared.seat.BusSeat.{BusSeat}
use Rattle.bus_lock.specs.declared.seat.SharedBus.{SharedBus}
use Rattle.bus_lock.specs.declared.view.View.{View}

-- what a seat knows
abbrev pub view_of : BusSeat → View
view_of seat = seat.chair.me.0

-- a seat is one of this bus's own
abbrev pub IsOwn : SharedBus → BusSeat → Type 0
IsOwn bus seat = seat.chair.table_id ≡ bus.table.shared.table_id

abbrev pub seating : SharedBus → Seating BusSeat
seating bus = record { own = IsOwn bus; knows = λ seat. knowing (view_of seat) }

-- the seats of all cores of a job on this bus, one a core in core order, each at this count
abbrev pub AreSeats : SharedBus → JobValue → Bool → ℕ → List BusSeat → Type 0
AreSeats bus job keeps count seats = AllSeated (seating bus) job keeps count seats

-- all seats of this bus, each after the last slot
abbrev pub CanClose : SharedBus → List BusSeat → Type 0
CanClose bus seats = AllAtEnd (seating bus) seats
