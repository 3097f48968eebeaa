-- The cores as they are opened.
use Rattle.std.proofs.Common.{List}
use Rattle.pmsi_model.specs.declared.Keep.{Keep}
use Rattle.pmsi_model.specs.Job.{JobValue}
use Rattle.core_unit.specs.declared.state.State.{State}
use Rattle.core_unit.specs.Opened.{AreOpened}
use Rattle.sim_serial.specs.Cores.{AreParts}

pub opened_parts : (job : JobValue) (keep : Keep) (cores : List State) → AreOpened job keep cores → AreParts job 0 cores
opened_parts job keep cores is = record { within = is.within; count = is.all; parts = is.part }
