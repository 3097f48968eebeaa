-- The lemmas and words of this crate's proofs that other crates may name. They name no other file of these proofs.
pub use Rattle.asm_link.proofs.OneImage.{one_image, no_fault}
pub use Rattle.asm_link.proofs.HasImage.{image_or_fault, never_memory}
