use Rattle.std.proofs.Common.{sym, arith}
use Rattle.job_text.proofs.Makings.{taken_start, taken_more, taken_fault, taken_end, is_there}
use Rattle.job_text.proofs.planning.programs_of.Goals as goal

pub loop-core-init : goal.loop-core-init
loop-core-init c said has e = rw c.new-programs.ensures.items (taken_start said c.args.cores c.args.gathered.programs e has.programs)

pub loop-core-preserved : goal.loop-core-preserved
loop-core-preserved c said has e =
    taken_more said c.args.cores c.loop-core.core-counter c.loop-core.left c.remove.new.self c.loop-core.programs.items c.push.new.self.items c.in-Some.program c.loop-core-test.true
    (c.loop-core.invariant said has e) c.in-Some.ensures.value (sym c.in_default-words_limit.ensures) c.in-Some.ensures.updates.0 c.in_ok-push.ensures.items

pub returns-in_default-clause-err : goal.returns-in_default-clause-err
returns-in_default-clause-err c free said has e none =
    absurd (is_there said c.args.cores c.loop-core.core-counter c.loop-core.left c.loop-core.programs.items e none c.loop-core-test.true (c.loop-core.invariant said has e) c.in_default.ensures.value)

pub returns-in-Some-words_limit-clause-err : goal.returns-in-Some-words_limit-clause-err
returns-in-Some-words_limit-clause-err c free said has e none =
    taken_fault said c.args.cores c.loop-core.core-counter c.loop-core.left c.loop-core.programs.items c.in-Some.program c.in-Some-words_limit.fault c.loop-core-test.true
    (c.loop-core.invariant said has e) c.in-Some.ensures.value (sym c.in-Some-words_limit.ensures)

pub returns-clause-ok : goal.returns-clause-ok
returns-clause-ok c said has e none =
    rw c.from_vec.ensures (taken_end said c.args.cores c.loop-core.core-counter c.loop-core.left c.loop-core.programs.items (omega arith) (c.loop-core.invariant said has e))
