-- What is asked for of a machine's histories.
use Rattle.std.specs.Prelude.{◌≡◌, true}
use Rattle.pmsi_model.specs.declared.Keep.{Keep}
use Rattle.sim_serial.specs.Cores.{CoresKeep}
use Rattle.sim_serial.specs.Sims.{SimValue}

-- what is asked for is kept: by the bus the actions of all slots, and by the cores their accesses
pub record KeepsAsked (keep : Keep) (sim : SimValue) : Type 0 where
  pub trace : keep.trace ≡ true → sim.bus.keeps ≡ true
  pub touches : keep.touches ≡ true → CoresKeep true sim.cores
