use Rattle.std.proofs.Common.{ℕ, ◌<◌, refl, sym, subst, ◌∙◌}
use Rattle.sim_serial.proofs.Keeps.{next_keeps}
use Rattle.sim_serial.proofs.Slots.{owner_below, owner_of_bus, owner_acted, can_act, acts}
use Rattle.sim_serial.proofs.cores.take_slot.Goals as goal

pub act-action-requires : goal.act-action-requires
act-action-requires c = let job = c.requires.job in let slot = c.args.bus.now.slot in let at = c.requires.at in
    can_act job slot c.owner-owner.result c.do_phases.new.cores c.args.bus.now c.index-cores-owner.result _ (c.do_phases.ensures.machine job slot c.requires.more at.parts) at.side
    (owner_of_bus job slot c.owner-owner.result c.slot.result c.table.result.now c.args.cores.now c.args.bus.now at c.table.ensures.table c.slot.ensures c.owner-owner.ensures.owner) refl

pub note_action-requires : goal.note_action-requires
note_action-requires c = let job = c.requires.job in let slot = c.args.bus.now.slot in let at = c.requires.at in
    let by = owner_of_bus job slot c.owner-owner.result c.slot.result c.table.result.now c.args.cores.now c.args.bus.now at c.table.ensures.table c.slot.ensures c.owner-owner.ensures.owner in
    let phased = c.do_phases.ensures.machine job slot c.requires.more at.parts in record {
      job = job;
      slot = slot;
      acted = acts job slot c.owner-owner.result c.do_phases.new.cores c.act-action.new.self c.act-action.result c.act-action.new.bus phased by
          (c.act-action.ensures.acted job slot c.owner-owner.result (owner_acted job slot c.owner-owner.result c.do_phases.new.cores c.index-cores-owner.result _ phased by refl) at.side);
    }

pub returns-clause-machine : goal.returns-clause-machine
returns-clause-machine c = λ job slot more at.
    let by = owner_of_bus job slot c.owner-owner.result c.slot.result c.table.result.now c.args.cores.now c.args.bus.now at c.table.ensures.table c.slot.ensures c.owner-owner.ensures.owner in
    let phased = c.do_phases.ensures.machine job slot more at.parts in
    let acted = c.act-action.ensures.acted job slot c.owner-owner.result (owner_acted job slot c.owner-owner.result c.do_phases.new.cores c.index-cores-owner.result _ phased by refl) at.side in record {
      parts = c.note_action.ensures.machine job slot (acts job slot c.owner-owner.result c.do_phases.new.cores c.act-action.new.self c.act-action.result c.act-action.new.bus phased by acted);
      side = acted.bus;
    }

pub returns-clause-keeps : goal.returns-clause-keeps
returns-clause-keeps c = λ keep is. let job = c.requires.job in let slot = c.args.bus.now.slot in let at = c.requires.at in
    let by = owner_of_bus job slot c.owner-owner.result c.slot.result c.table.result.now c.args.cores.now c.args.bus.now at c.table.ensures.table c.slot.ensures c.owner-owner.ensures.owner in
    let phased = c.do_phases.ensures.machine job slot c.requires.more at.parts in record {
      trace = c.act-action.ensures.bus_keeps ∙ is.trace;
      touches = c.note_action.ensures.keeps keep.touches
          (next_keeps keep.touches c.do_phases.new.cores c.owner-owner.result c.index-cores-owner.result _ c.act-action.new.self
          (subst (λ (n : ℕ). c.owner-owner.result < n) (sym phased.all) (owner_below job slot c.owner-owner.result at.parts.within by)) refl
          c.act-action.ensures.keeps (c.do_phases.ensures.keeps keep.touches is.touches));
    }
