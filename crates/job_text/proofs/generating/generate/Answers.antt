use Rattle.std.proofs.Common.{rules, ◌≡◌, sym, subst}
use Rattle.job_text.specs.declared.plan.JobPlan.{JobPlan}
use Rattle.job_text.specs.Generating.{generated}
use Rattle.job_text.specs.Plans.{IsPrintable}
use Rattle.job_text.proofs.GeneratedPlans.{prints}
use Rattle.job_text.proofs.generating.generate.Goals as goal

pub returns-clause-printable : goal.returns-clause-printable
unfolding generated
returns-clause-printable c =
    let is : ◌≡◌ {A = JobPlan} (record { shape = c.shape_of.result; programs = c.from_vec.result }) (generated c.args.seed c.args.cores c.args.slots) = search rules in
    subst IsPrintable (sym is) (prints c.args.seed c.args.cores c.args.slots c.requires.cores.0 c.requires.cores.1 c.requires.slots)
