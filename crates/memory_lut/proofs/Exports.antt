-- The lemmas and words of this crate's proofs that other crates may name. They name no other file of these proofs.
pub use Rattle.memory_lut.proofs.Keeps.{all_request}
