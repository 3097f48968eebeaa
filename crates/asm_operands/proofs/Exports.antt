-- The lemmas and words of this crate's proofs that other crates may name. They name no other file of these proofs.
pub use Rattle.asm_operands.proofs.Registers.{is_small}
pub use Rattle.asm_operands.proofs.Places.{Reached, starts, takes, skips, nowhere}
pub use Rattle.asm_operands.proofs.HeldNames.{either_way}
