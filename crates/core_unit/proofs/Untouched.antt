-- What stays as it is in a core when the state of a line changes.
use Rattle.std.proofs.Common.{◌≡◌, ℕ, Bool, Option, Some, None, refl}
use Rattle.pmsi_model.specs.declared.Action.{Action}
use Rattle.pmsi_model.specs.declared.Action.TheVariants.{Idle, Post, Fill, PostFill, Back}
use Rattle.pmsi_model.specs.declared.Mode.{Mode}
use Rattle.pmsi_model.specs.declared.Row.{Row}
use Rattle.pmsi_model.specs.declared.Touch.{Touch}
use Rattle.pmsi_model.specs.declared.Want.{Want}
use Rattle.core_unit.specs.declared.state.State.{State}
use Rattle.core_unit.specs.Reserved.{Reserved}
use Rattle.core_unit.specs.State.{chosen, snooped}

pub record Untouched : Type 0 where
  pub slot : ℕ
  pub rows : Reserved Row
  pub retired : ℕ
  pub keeps : Bool
  pub touches : Reserved Touch
  pub want : Option Want
  pub phase_done : Bool

abbrev pub untouched_of : State → Untouched
untouched_of v = record { slot = v.slot; rows = v.rows; retired = v.retired; keeps = v.keeps; touches = v.touches; want = v.pending.want; phase_done = v.phase_done }

-- a line that leaves
pub chosen-run : (gone : Option (ℕ × Mode)) (v : State) → untouched_of (chosen gone v) ≡ untouched_of v
chosen-run None v = refl
chosen-run (Some h) v = refl

-- another core's action
pub snooped-run : (action : Action) (v : State) → untouched_of (snooped action v) ≡ untouched_of v
snooped-run Idle v = refl
snooped-run (Post name line) v = refl
snooped-run (Fill line) v = refl
snooped-run (PostFill name line) v = refl
snooped-run (Back line kept) v = refl
