-- The lemmas of this crate's proofs that other crates may name. They name no other file of these proofs.

-- ---- the next own slot
pub use Rattle.slot_plan.proofs.NextOwn.{next_at_distance}
