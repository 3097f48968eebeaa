use Rattle.std.proofs.Common.{◌≡◌, drop}
use Rattle.pmsi_model.specs.Job.{JobValue}
use Rattle.sim_serial.specs.Sims.{shape_of}
use Rattle.script_text.specs.Output.{Place}
use Rattle.debugger.specs.Sessions.{HasCores, IsAt}
use Rattle.debugger.proofs.Outputs.{IsOnIts}
use Rattle.debugger.proofs.session.Session.run.Given as goal

abbrev pub invariant-loop-command : goal.invariant-loop-command
invariant-loop-command l = record {
  on : (job : JobValue) (place : Place) → IsAt job place l.fn.self → IsOnIts job place l.commands (drop l.command-index l.commands) l.initial.out.items l.out.items l.self;
  shape : shape_of l.self.sim ≡ shape_of l.fn.self.sim;
  cores : HasCores l.self;
}
