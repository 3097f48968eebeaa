-- What a core asks of the bus, and what comes of it.
use Rattle.std.specs.Prelude.{◌≡◌, ◌≢◌, ℕ, ◌+◌, List, Option, Some, None, true}
use Rattle.pmsi_model.specs.declared.Action.{Action}
use Rattle.pmsi_model.specs.declared.Action.TheVariants.{Back, Fill}
use Rattle.pmsi_model.specs.declared.Want.{Want}
use Rattle.pmsi_model.specs.Job.{JobValue}
use Rattle.pmsi_model.specs.Slots.{plan_of, owner_of_slot}
use Rattle.pmsi_model.specs.Run.{record_at}
use Rattle.pmsi_model.specs.Shared.{SharedValue, BusSide, CanFill, CanPost, CanWriteBack, line_in, side_back, side_filled, side_posted}
use Rattle.pmsi_model.specs.Parts.{IsBusPart}
use Rattle.cache_ctrl.specs.declared.Event.TheVariants.{OwnBack}
use Rattle.cache_ctrl.specs.Duties.{own_event}
use Rattle.cache_array.specs.Cache.{Holds, words_of}
use Rattle.core_unit.specs.declared.state.State.{State}
use Rattle.core_unit.specs.Changes.{CanChange}
use Rattle.core_unit.specs.State.{asked, backed, fills_at_once, keeps, name_for, popped, posted_action, posted_state, served}
use Rattle.core_unit.specs.Stands.{CanServe}
use Rattle.core_unit.specs.Parts.{IsPart, IsPartAfter}

-- an action, with the core and the bus after it
pub record Outcome : Type 0 where
  pub action : Action
  pub core : State
  pub side : BusSide

abbrev pub outcome : Action → State → BusSide → Outcome
outcome action core side = record { action = action; core = core; side = side }

-- the first line is held, and owned as the bus has it, and its state can change
pub record CanBack (line : ℕ) (lines : List ℕ) (v : State) (m : SharedValue) : Type 0 where
  pub held : Holds line v.cache.lines
  pub changes : CanChange OwnBack line (popped lines v)
  pub can : CanWriteBack v.number line (words_of line v.cache.lines) m

-- the line is written back
pub record IsBacked (line : ℕ) (lines : List ℕ) (v : State) (b : BusSide) (o : Outcome) : Type 0 where
  pub what : o.action ≡ Back line (keeps line v)
  pub core : o.core ≡ backed line lines v
  pub side : o.side ≡ side_back line (words_of line v.cache.lines) (keeps line v) b

-- the request of a want can be posted
pub record CanPostFor (want : Want) (v : State) (m : SharedValue) : Type 0 where
  pub can : CanPost v.number want.line m
  pub changes : CanChange (own_event want.kind) want.line v
  pub serve : fills_at_once want m v ≡ true → CanServe want (line_in m want.line) (asked want v)

-- and one that was posted can be served
pub record CanFillFor (want : Want) (v : State) (m : SharedValue) : Type 0 where
  pub can : CanFill v.number want.line m
  pub serve : CanServe want (line_in m want.line) v

abbrev pub CanRequest : Option ℕ → Want → State → SharedValue → Type 0
CanRequest None want v m = CanPostFor want v m
CanRequest (Some post) want v m = CanFillFor want v m

-- the request is posted
pub record IsPosted (want : Want) (v : State) (b : BusSide) (o : Outcome) : Type 0 where
  pub what : o.action ≡ posted_action want b.memory v
  pub core : o.core ≡ posted_state want b.memory v
  pub side : o.side ≡ side_posted v.number want.line (name_for want v) b

-- the request, which was posted in the slot `post`, is served
pub record IsFilled (want : Want) (post : ℕ) (v : State) (b : BusSide) (o : Outcome) : Type 0 where
  pub what : o.action ≡ Fill want.line
  pub core : o.core ≡ served want (line_in b.memory want.line) post v
  pub side : o.side ≡ side_filled v.number want.line b

abbrev pub IsRequested : Option ℕ → Want → State → BusSide → Outcome → Type 0
IsRequested None want v b o = IsPosted want v b o
IsRequested (Some post) want v b o = IsFilled want post v b o

-- another core snooped the action of the slot's owner, for each job of which it can be
abbrev pub IsSnooped : ℕ → Action → State → State → Type 0
IsSnooped by action old new =
    (job : JobValue) (slot c : ℕ) → IsPartAfter job slot c old → owner_of_slot (plan_of job) slot ≡ by → by ≢ c → action ≡ record_at job slot →
    IsPart job (slot + 1) c new

-- the owner of a slot did its action: core and bus are at the next boundary
pub record IsActed (job : JobValue) (slot c : ℕ) (action : Action) (v : State) (b : BusSide) : Type 0 where
  pub what : action ≡ record_at job slot
  pub core : IsPart job (slot + 1) c v
  pub bus : IsBusPart job (slot + 1) b
