-- The lemmas of this crate's proofs that other crates may name. They name no other file of these proofs.

-- ---- words and their places in lines
pub use Rattle.core_unit.proofs.Words.{some_words, line_of_word}
pub use Rattle.core_unit.proofs.Copies.{place_of_word, place_below}
-- ---- two states of one core
pub use Rattle.core_unit.proofs.Alike.{parts_alike}
