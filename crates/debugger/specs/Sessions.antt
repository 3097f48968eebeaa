-- Where a machine with its breaks stands.
use Rattle.std.specs.Prelude.{◌≡◌, ◌<◌}
use Rattle.std.specs.List.{All}
use Rattle.pmsi_model.specs.Job.{JobValue}
use Rattle.sim_serial.specs.Sims.{IsSimOf, shape_of}
use Rattle.debugger.specs.declared.session.Session.{Session}
use Rattle.script_text.specs.Output.{Place}

-- it is that of a job where a script stands
pub record IsAt (job : JobValue) (place : Place) (session : Session) : Type 0 where
  pub at : IsSimOf job place.slot session.sim
  pub breaks : session.breaks.items ≡ place.breaks

-- its machine has the cores of its breaks
abbrev pub HasCores : Session → Type 0
HasCores session = All (λ b. b.core < (shape_of session.sim).cores) session.breaks.items
