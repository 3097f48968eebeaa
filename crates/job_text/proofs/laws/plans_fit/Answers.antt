use Rattle.job_text.proofs.PlanLimits as limits
use Rattle.job_text.proofs.laws.plans_fit.Goals as goal

pub returns : goal.returns
returns c = limits.plans_fit
