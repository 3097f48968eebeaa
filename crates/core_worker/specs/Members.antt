-- What a worker asks of its members, and what it leaves.
use Rattle.std.specs.Prelude.{◌≡◌, Bool, false, ◌<◌, ◌≤◌, ℕ, List, length, slice_index_or}
use Rattle.turn_bus.specs.Answers.{SameSeat, StandsAt}
use Rattle.turn_bus.specs.Seats.{IsOwn, view_of}
use Rattle.turn_bus.specs.declared.seat.TurnBus.{TurnBus}
use Rattle.core_worker.specs.declared.member.Member.{Member}

-- the seat is one of this bus's own; core and seat are of one job, and have one number and one slot
pub record IsMember (bus : TurnBus) (m : Member) : Type 0 where
  pub own : IsOwn bus m.seat
  pub stands : StandsAt (view_of m.seat) m.core

-- a member of this bus as it was before and as it is: its seat is the same core's, and its core keeps what it kept
pub record GoesOn (bus : TurnBus) (old new : Member) : Type 0 where
  pub is : IsMember bus new
  pub seat : SameSeat (view_of old.seat) (view_of new.seat)
  pub keeps : new.core.keeps ≡ old.core.keeps

-- the slots of a member are over
abbrev pub IsOver : Member → Type 0
IsOver m = (view_of m.seat).count ≡ (view_of m.seat).job.shape.slots

-- ---- lists of members

abbrev pub AreMembers : TurnBus → List Member → Type 0
AreMembers bus ms = (k : ℕ) (other : Member) → k < length ms → IsMember bus (slice_index_or ms k other)

pub record GoOn (bus : TurnBus) (old new : List Member) : Type 0 where
  pub all : length new ≡ length old
  pub each : (k : ℕ) (other : Member) → k < length old → GoesOn bus (slice_index_or old k other) (slice_index_or new k other)

abbrev pub AreOver : List Member → Type 0
AreOver ms = (k : ℕ) (other : Member) → k < length ms → IsOver (slice_index_or ms k other)

-- the first `count` members of a list had their try; the others are as they were
pub record IsRound (bus : TurnBus) (old new : List Member) (count : ℕ) (slots_left : Bool) : Type 0 where
  pub all : length new ≡ length old
  pub tried : (k : ℕ) (other : Member) → k < count → GoesOn bus (slice_index_or old k other) (slice_index_or new k other)
  pub others : (k : ℕ) (other : Member) → count ≤ k → slice_index_or new k other ≡ slice_index_or old k other
  pub over : slots_left ≡ false → (k : ℕ) (other : Member) → k < count → IsOver (slice_index_or new k other)
