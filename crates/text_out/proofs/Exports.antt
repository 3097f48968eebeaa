-- The lemmas and words of this crate's proofs that other crates may name. They name no other file of these proofs.
pub use Rattle.text_out.proofs.Grown.{IsByPlaces, grown, further}
pub use Rattle.text_out.proofs.LineCuts.{none, first, last, kept}
