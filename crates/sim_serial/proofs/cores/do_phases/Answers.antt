use Rattle.std.proofs.Common.{sym, refl, subst, ◌<◌, arith}
use Rattle.sim_serial.proofs.Slots.{begins, next_part, slot_more, phase_next, all_phased}
use Rattle.sim_serial.proofs.Keeps.{next_keeps}
use Rattle.sim_serial.proofs.cores.do_phases.Goals as goal

pub loop-c-init : goal.loop-c-init
loop-c-init c = record {
  machine = λ job slot more at. begins job slot c.args.cores.now more at;
  keeps = λ keeps all. all;
}

pub phase-requires-clause-fresh : goal.phase-requires-clause-fresh
phase-requires-clause-fresh c = (next_part c.requires.job c.requires.slot c.loop-c.c c.loop-c.cores c.index-cores-c.result
    (subst (λ n. c.loop-c.c < n) (sym c.loop-c.auto.cores) c.loop-c-test.true) (c.loop-c.invariant.machine c.requires.job c.requires.slot c.requires.more c.requires.parts)).fresh

pub phase-requires-clause-more : goal.phase-requires-clause-more
phase-requires-clause-more c = slot_more c.requires.job c.requires.slot c.loop-c.c _ c.requires.more (next_part c.requires.job c.requires.slot c.loop-c.c c.loop-c.cores c.index-cores-c.result
    (subst (λ n. c.loop-c.c < n) (sym c.loop-c.auto.cores) c.loop-c-test.true) (c.loop-c.invariant.machine c.requires.job c.requires.slot c.requires.more c.requires.parts))

pub loop-c-preserved : goal.loop-c-preserved
loop-c-preserved c = let below = subst (λ n. c.loop-c.c < n) (sym c.loop-c.auto.cores) c.loop-c-test.true in record {
  machine = λ job slot more at. phase_next job slot c.loop-c.c c.loop-c.cores c.index-cores-c.result _ c.phase.new.self
      below (c.loop-c.invariant.machine job slot more at) refl (λ before part. c.phase.ensures.phased job slot c.loop-c.c before part);
  keeps = λ keeps all. next_keeps keeps c.loop-c.cores c.loop-c.c c.index-cores-c.result _ c.phase.new.self below refl c.phase.ensures.keeps (c.loop-c.invariant.keeps keeps all);
}

pub returns-clause-machine : goal.returns-clause-machine
returns-clause-machine c = λ job slot more at. all_phased job slot c.loop-c.c c.loop-c.cores
    (let all = c.loop-c.auto.cores in let most = c.loop-c.auto.c-end in let past = c.loop-c-test.false in omega arith) (c.loop-c.invariant.machine job slot more at)
