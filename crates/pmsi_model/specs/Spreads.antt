-- Spreads: how far each core and the bus have come, where the cores take their steps in any order. The definitions move
-- counts alone.
use Rattle.std.specs.Prelude.{◌≡◌, ◌≢◌, ℕ, ◌+◌, ◌≤◌, ◌<◌, ◌==◌, ◌&&◌, ◌||◌, List, [], ◌∷◌, Bool, true, false, not, if◌then◌else◌, nat_lt}
use Rattle.pmsi_model.specs.declared.step.Step.{Step}
use Rattle.pmsi_model.specs.declared.step.Step.TheVariants.{Phase, Meet}
use Rattle.pmsi_model.specs.Job.{JobValue}
use Rattle.pmsi_model.specs.Slots.{plan_of, owner_of_slot}

-- ---- one core and the bus. The count of a core is that of its slots that are over, so the number of the slot that it is
-- in; its mark says that its phase of this slot is done. The turn is the slot of the bus

-- the slot is the core's own
abbrev pub is_own : JobValue → ℕ → ℕ → Bool
is_own job c slot = owner_of_slot (plan_of job) slot == c

-- a core's phase of its slot is still to do
abbrev pub can_phase : JobValue → ℕ → Bool → Bool
can_phase job count marked = nat_lt count job.shape.slots && not marked

-- the owner of a slot goes on at once, another core once the bus has passed the slot
abbrev pub goes_on : JobValue → ℕ → ℕ → ℕ → Bool
goes_on job c count turn = is_own job c count || nat_lt count turn

-- a core whose phase is done meets the bus, and its slot is over
abbrev pub can_meet : JobValue → ℕ → ℕ → Bool → ℕ → Bool
can_meet job c count marked turn = nat_lt count job.shape.slots && (marked && goes_on job c count turn)

-- the bus goes on with the owner of its slot
abbrev pub turn_after : JobValue → ℕ → ℕ → ℕ → ℕ
turn_after job c count turn = if is_own job c count then count + 1 else turn

-- one Meet of a core whose phase is done, at its count and the bus's turn: `next` is its count afterwards, with a phase to
-- do, and `after` the bus's turn
pub record IsMeet (job : JobValue) (c count turn next after : ℕ) : Type 0 where
  pub more : count < job.shape.slots
  pub free : goes_on job c count turn ≡ true
  pub core : next ≡ count + 1
  pub bus : after ≡ turn_after job c count turn

-- the turn is at most every own slot of the core that isn't below its count
abbrev pub IsBefore : JobValue → ℕ → ℕ → ℕ → Type 0
IsBefore job c count turn = (slot : ℕ) → count ≤ slot → owner_of_slot (plan_of job) slot ≡ c → turn ≤ slot

-- the core isn't past the bus, nor the bus past the core's next own slot
pub record Fits (job : JobValue) (c count turn : ℕ) : Type 0 where
  pub past : count ≤ turn
  pub before : IsBefore job c count turn

-- a Meet leaves each core fitting the bus: the one that met it, and another at its own count
abbrev pub MeetsFit : Type 0
MeetsFit = (job : JobValue) (c count turn next after : ℕ) → Fits job c count turn → IsMeet job c count turn next after →
    Fits job c next after × ((d other : ℕ) → d ≢ c → Fits job d other turn → Fits job d other after)

-- ---- all cores and the bus

-- each core's count and mark, and the bus's turn
pub record Counts : Type 0 where
  pub count : ℕ → ℕ
  pub marked : ℕ → Bool
  pub turn : ℕ

abbrev pub at_start : Counts
at_start = record { count = λ c. 0; marked = λ c. false; turn = 0 }

-- the core of a step
abbrev pub core_in : Step → ℕ
core_in (Phase c) = c
core_in (Meet c) = c

-- a step can be taken
abbrev pub is_enabled : JobValue → Step → Counts → Bool
is_enabled job (Phase c) k = can_phase job (k.count c) (k.marked c)
is_enabled job (Meet c) k = can_meet job c (k.count c) (k.marked c) k.turn

-- one core gets a count and a mark, and the bus a turn
abbrev pub with_counts : ℕ → ℕ → Bool → ℕ → Counts → Counts
with_counts c count marked turn k = record {
  count = λ d. if d == c then count else k.count d;
  marked = λ d. if d == c then marked else k.marked d;
  turn = turn;
}

-- a phase marks its core; a meeting ends the core's slot
abbrev pub stepped : JobValue → Step → Counts → Counts
stepped job (Phase c) k = with_counts c (k.count c) true k.turn k
stepped job (Meet c) k = with_counts c (k.count c + 1) false (turn_after job c (k.count c) k.turn) k

-- what a step makes of the counts: one that can't be taken changes nothing
abbrev pub step_counts : JobValue → Step → Counts → Counts
step_counts job step k = if is_enabled job step k then stepped job step k else k

-- where a list of steps leads
unfoldable pub counts_from : JobValue → Counts → List Step → Counts
counts_from job k [] = k
counts_from job k (step ∷ steps) = counts_from job (step_counts job step k) steps

abbrev pub counts_after : JobValue → List Step → Counts
counts_after job steps = counts_from job at_start steps

-- every core fits the bus
abbrev pub AllFit : JobValue → Counts → Type 0
AllFit job k = (c : ℕ) → Fits job c (k.count c) k.turn

-- whatever the steps were and their order, every core fits the bus
abbrev pub SpreadsFit : Type 0
SpreadsFit = (job : JobValue) (steps : List Step) → AllFit job (counts_after job steps)

-- a Meet that can be taken is one Meet of its core
abbrev pub MeetsAreSteps : Type 0
MeetsAreSteps = (job : JobValue) (c : ℕ) (k : Counts) → is_enabled job (Meet c) k ≡ true →
    IsMeet job c (k.count c) k.turn ((step_counts job (Meet c) k).count c) (step_counts job (Meet c) k).turn
