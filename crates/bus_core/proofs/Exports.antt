-- The lemmas and words of this crate's proofs that other crates may name. They name no other file of these proofs.
pub use Rattle.bus_core.proofs.Agree.{parts_agree}
pub use Rattle.bus_core.proofs.Records.{records_length}
