use Rattle.std.proofs.Common.{refl, sym, ap, ◌∙◌, arith, option_map}
use Rattle.job_text.specs.declared.job_fault.HeadWord.TheVariants as head
use Rattle.job_text.specs.declared.job_fault.JobFault.TheVariants.{Missing}
use Rattle.job_text.specs.Faults.{missing_core}
use Rattle.job_text.proofs.Judgings.{core_next, core_here, core_end}
use Rattle.job_text.proofs.judging.missing_core.Goals as goal

pub loop-core-init : goal.loop-core-init
unfolding missing_core
loop-core-init c said has e = rw e refl

pub returns-then-has_no_program : goal.returns-then-has_no_program
returns-then-has_no_program c said has e =
    sym (c.loop-core.invariant said has e ∙ ap (option_map (λ core. Missing (head.Core core)))
    (core_here said c.args.cores c.loop-core.core c.loop-core-test.true (sym (c.has_no_program.ensures said has) ∙ c.if-has_no_program.true)))

pub loop-core-preserved : goal.loop-core-preserved
loop-core-preserved c said has e =
    c.loop-core.invariant said has e ∙ ap (option_map (λ core. Missing (head.Core core)))
    (core_next said c.args.cores c.loop-core.core c.loop-core-test.true (sym (c.has_no_program.ensures said has) ∙ c.if-has_no_program.false))

pub returns : goal.returns
returns c said has e = sym (c.loop-core.invariant said has e ∙ ap (option_map (λ core. Missing (head.Core core))) (core_end said c.args.cores c.loop-core.core (omega arith)))
