use Rattle.std.proofs.Common.{sym, refl, subst, ◌+◌, ◌<◌, arith}
use Rattle.sim_serial.specs.Cores.{AreInNotes, CoresKeep}
use Rattle.sim_serial.proofs.Slots.{can_snoop, note_more, note_none, all_noted}
use Rattle.sim_serial.proofs.Keeps.{next_keeps}
use Rattle.sim_serial.proofs.cores.note_action.Goals as goal
use Rattle.sim_serial.proofs.cores.note_action.Goals.{then-c-owner, else-c-owner}

pub loop-c-init : goal.loop-c-init
loop-c-init c = record { machine = λ job slot at. at; keeps = λ keeps all. all }

pub snoop-requires : goal.snoop-requires
snoop-requires c = can_snoop c.requires.job c.requires.slot c.args.owner c.args.action c.loop-c.c c.loop-c.cores c.index-cores-c.result _
    (subst (λ n. c.loop-c.c < n) (sym c.loop-c.auto.cores) c.loop-c-test.true) (c.loop-c.invariant.machine c.requires.job c.requires.slot c.requires.acted) c.if-c-owner.true refl

pub loop-c-preserved : goal.loop-c-preserved
loop-c-preserved c = let below = subst (λ n. c.loop-c.c < n) (sym c.loop-c.auto.cores) c.loop-c-test.true in elim c.if-c-owner.branch [
  | then-c-owner w ↦ record {
    machine = λ job slot at. subst (AreInNotes job slot c.args.owner c.args.action (c.loop-c.c + 1)) (sym w.cores-is)
        (note_more job slot c.args.owner c.args.action c.loop-c.c c.loop-c.cores w.index-cores-c.result _ w.snoop.new.self
        below (c.loop-c.invariant.machine job slot at) w.if-c-owner.true refl (w.snoop.ensures.snooped job slot c.loop-c.c));
    keeps = λ keeps all. subst (CoresKeep keeps) (sym w.cores-is)
        (next_keeps keeps c.loop-c.cores c.loop-c.c w.index-cores-c.result _ w.snoop.new.self below refl w.snoop.ensures.keeps (c.loop-c.invariant.keeps keeps all));
  }
  | else-c-owner w ↦ record {
    machine = λ job slot at. subst (AreInNotes job slot c.args.owner c.args.action (c.loop-c.c + 1)) (sym w.cores-is)
        (note_none job slot c.args.owner c.args.action c.loop-c.c c.loop-c.cores (c.loop-c.invariant.machine job slot at) w.if-c-owner.false);
    keeps = λ keeps all. subst (CoresKeep keeps) (sym w.cores-is) (c.loop-c.invariant.keeps keeps all);
  }
]

pub returns-clause-machine : goal.returns-clause-machine
returns-clause-machine c = λ job slot at. all_noted job slot c.args.owner c.args.action c.loop-c.c c.loop-c.cores
    (let all = c.loop-c.auto.cores in let past = c.loop-c-test.false in omega arith) (c.loop-c.invariant.machine job slot at)
