use Rattle.std.proofs.Common.{rules, ◌≡◌, List, ℕ, sym, subst}
use Rattle.job_text.specs.Plans.{IsPlanOf, plan_text}
use Rattle.job_text.proofs.PrintedPlans.{printed_means}
use Rattle.job_text.proofs.printing.print_plan.Goals as goal

pub returns-clause-means : goal.returns-clause-means
unfolding plan_text
returns-clause-means c is =
    let text : c.push_cores.new.out.items ≡ plan_text c.args.plan.now = search rules in
    subst (λ (bytes : List ℕ). IsPlanOf bytes c.args.plan.now) (sym text) (printed_means c.args.plan.now is)
