-- The lemmas and words of this crate's proofs that other crates may name. They name no other file of these proofs.
pub use Rattle.job_text.proofs.EitherEnd.{either as plan_or_not}
pub use Rattle.job_text.proofs.EitherJoin.{either as join_or_not}
pub use Rattle.job_text.proofs.OneEnd.{one_plan, one_fault, not_both as not_both_plans}
pub use Rattle.job_text.proofs.OneJoin.{one_job, one_join_fault, not_both as not_both_joins}
pub use Rattle.job_text.proofs.PlanLimits.{plans_fit}
