-- The lemmas and words of this crate's proofs that other crates may name. They name no other file of these proofs.
pub use Rattle.rv_decode.proofs.Rows.{IsPutBack, encoding_back}
pub use Rattle.rv_decode.proofs.Encoded.{has_row}
