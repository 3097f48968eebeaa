-- A machine of a job is a Sim, and coherent.
use Rattle.std.proofs.Common.{◌≤◌, ℕ, List, length, sym, subst, arith}
use Rattle.pmsi_model.specs.declared.limits.TheConstants.{MAX_SLOTS}
use Rattle.pmsi_model.specs.declared.job.Geometry.{Geometry}
use Rattle.pmsi_model.specs.Job.{JobValue}
use Rattle.pmsi_model.specs.Slots.{plan_of}
use Rattle.pmsi_model.specs.Shared.{BusSide}
use Rattle.pmsi_model.proofs.OwnSlots.{own_within}
use Rattle.coherence_laws.proofs.Exports.{stays_coherent}
use Rattle.core_unit.specs.declared.state.State.{State}
use Rattle.core_unit.specs.Parts.{IsPart}
use Rattle.sim_serial.specs.Cores.{AreWith}
use Rattle.sim_serial.specs.Sims.{IsSim, SimValue, shape_of, sim_with, slot_of}

pub is_sim : (job : JobValue) (slot : ℕ) (cores : List State) (bus : BusSide) → AreWith job slot cores bus → IsSim (sim_with cores bus)
is_sim job slot cores bus at = record {
  job = job;
  at = subst (λ (n : ℕ). AreWith job n cores bus) (sym at.side.now) at;
  coherent = stays_coherent job at.parts.within bus.slot;
}

-- a core has no more rows than slots
pub few_rows : (job : JobValue) (slot c : ℕ) (k : State) → IsPart job slot c k → length k.rows.items ≤ MAX_SLOTS
few_rows job slot c k part =
    let few = part.in_slot.rows.few in let own = own_within (plan_of job) c slot in
    let within = part.in_slot.within in let limit = part.in_slot.stands.carries.within.shape.slots in omega arith

pub within_slots : (sim : SimValue) → IsSim sim → slot_of sim ≤ (shape_of sim).slots
within_slots sim is = subst (λ (g : Geometry). sim.bus.slot ≤ g.slots) (sym is.at.side.memory.shape) is.at.side.within
