use Rattle.std.proofs.Common.{◌+◌, ◌<◌, List, sym, ◌∙◌, subst}
use Rattle.pmsi_model.specs.declared.job.Geometry.{Geometry}
use Rattle.core_unit.specs.declared.state.State.{State}
use Rattle.sim_serial.specs.Cores.{AreWith}
use Rattle.sim_serial.specs.Sims.{IsSim, Keeps, SimValue, sim_with}
use Rattle.sim_serial.proofs.Keeps.{lent_back}
use Rattle.sim_serial.proofs.Sims.{is_sim}
use Rattle.sim_serial.proofs.sim.Sim.step.Goals as goal

pub invariant_of-self : goal.invariant_of-self
invariant_of-self c = let job = c.self.invariant.job in let slot = c.self.inside.bus.slot in
    let at : AreWith job slot c.deref_mut.result.now c.self.inside.bus = subst (λ (k : List State). AreWith job slot k c.self.inside.bus) (sym c.deref_mut.ensures.value) c.self.invariant.at in
    let below = subst (λ (v : SimValue). v.bus.slot < v.bus.memory.shape.slots) (sym c.self.view_is) c.requires in
    let more : slot < job.shape.slots = subst (λ (g : Geometry). slot < g.slots) at.side.memory.shape below in
    let after : AreWith job (slot + 1) c.take_slot.new.cores c.take_slot.new.bus = c.take_slot.ensures.machine job slot more at in
    subst (λ (k : List State). IsSim (sim_with k c.take_slot.new.bus))
    (sym (lent_back c.self.inside.cores.len c.take_slot.new.cores c.self.inside.cores.items (after.parts.count ∙ sym at.parts.count ∙ c.deref_mut.ensures.len)))
    (is_sim job (slot + 1) c.take_slot.new.cores c.take_slot.new.bus after)

pub returns-clause-keeps : goal.returns-clause-keeps
returns-clause-keeps c = λ keep is. let job = c.self.invariant.job in let slot = c.self.inside.bus.slot in
    let at : AreWith job slot c.deref_mut.result.now c.self.inside.bus = subst (λ (k : List State). AreWith job slot k c.self.inside.bus) (sym c.deref_mut.ensures.value) c.self.invariant.at in
    let below = subst (λ (v : SimValue). v.bus.slot < v.bus.memory.shape.slots) (sym c.self.view_is) c.requires in
    let more : slot < job.shape.slots = subst (λ (g : Geometry). slot < g.slots) at.side.memory.shape below in
    let after : AreWith job (slot + 1) c.take_slot.new.cores c.take_slot.new.bus = c.take_slot.ensures.machine job slot more at in
    let kept : Keeps keep (sim_with c.deref_mut.result.now c.self.inside.bus) =
    subst (λ (k : List State). Keeps keep (sim_with k c.self.inside.bus)) (sym c.deref_mut.ensures.value) (subst (Keeps keep) (sym c.self.view_is) is) in
    subst (λ (k : List State). Keeps keep (sim_with k c.take_slot.new.bus))
    (sym (lent_back c.self.inside.cores.len c.take_slot.new.cores c.self.inside.cores.items (after.parts.count ∙ sym at.parts.count ∙ c.deref_mut.ensures.len)))
    (c.take_slot.ensures.keeps keep kept)
