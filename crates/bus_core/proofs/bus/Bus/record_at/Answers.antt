-- The buffer's action is the record of the slot.
use Rattle.std.proofs.Common.{◌∙◌}
use Rattle.bus_core.proofs.Records.{recent_of_job}
use Rattle.bus_core.proofs.bus.Bus.record_at.Goals as goal

pub returns-clause-of_job : goal.returns-clause-of_job
returns-clause-of_job c job s is = c.recent_action.ensures.action ∙ recent_of_job job s c.args.slot c.args.self.now is
