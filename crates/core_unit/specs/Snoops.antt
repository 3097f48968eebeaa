-- What has to hold before a core snoops.
use Rattle.pmsi_model.specs.declared.Action.{Action}
use Rattle.pmsi_model.specs.declared.Action.TheVariants.{Idle, Post, Fill, PostFill, Back}
use Rattle.pmsi_model.specs.declared.Kind.{Kind}
use Rattle.pmsi_model.specs.Bus.{kind_of_name}
use Rattle.std.specs.Prelude.{ℕ}
use Rattle.cache_ctrl.specs.Duties.{other_event}
use Rattle.core_unit.specs.declared.state.State.{State}
use Rattle.core_unit.specs.Changes.{CanChange}

-- another core's request can change the state of its line
abbrev pub CanSnoopRequest : Kind → ℕ → State → Type 0
CanSnoopRequest kind line v = CanChange (other_event kind) line v

-- of another core's action a post alone changes anything
abbrev pub CanSnoopAction : Action → State → Type 0
CanSnoopAction Idle v = Unit {0}
CanSnoopAction (Post name line) v = CanSnoopRequest (kind_of_name name) line v
CanSnoopAction (Fill line) v = Unit {0}
CanSnoopAction (PostFill name line) v = CanSnoopRequest (kind_of_name name) line v
CanSnoopAction (Back line kept) v = Unit {0}
