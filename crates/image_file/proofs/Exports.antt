-- The lemmas and words of this crate's proofs that other crates may name. They name no other file of these proofs.
pub use Rattle.image_file.proofs.Images.{either, not_both, one_image}
