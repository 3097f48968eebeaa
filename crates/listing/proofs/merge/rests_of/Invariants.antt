use Rattle.std.proofs.Common.{◌≡◌, ℕ, true}
use Rattle.pmsi_model.specs.Job.{JobValue}
use Rattle.sim_serial.specs.Cores.{CoresKeep}
use Rattle.sim_serial.specs.Sims.{IsSimOf}
use Rattle.listing.specs.Rests.{rests_at}
use Rattle.listing.proofs.merge.rests_of.Given as goal

abbrev pub invariant-loop-c : goal.invariant-loop-c
invariant-loop-c l = (job : JobValue) (slot : ℕ) → IsSimOf job slot l.sim → (l.with_touches ≡ true → CoresKeep true l.sim.cores) → l.rests.items ≡ rests_at job l.with_touches 0 slot l.c
