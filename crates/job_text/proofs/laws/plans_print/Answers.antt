use Rattle.job_text.proofs.PrintedPlans as plans
use Rattle.job_text.proofs.laws.plans_print.Goals as goal

pub returns : goal.returns
returns c = plans.printed_means
