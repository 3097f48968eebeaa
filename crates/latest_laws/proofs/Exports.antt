-- The lemmas and words of this crate's proofs that other crates may name. They name no other file of these proofs.
pub use Rattle.latest_laws.proofs.Runs.{run_ready, always_reads_latest}
