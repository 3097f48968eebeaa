-- The lemmas and words of this crate's proofs that other crates may name. They name no other file of these proofs.
pub use Rattle.asm_parse.proofs.LineCuts.{none, first}
