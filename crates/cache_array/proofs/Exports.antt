-- The lemmas of this crate's proofs that other crates may name. They name no other file of these proofs.

-- ---- what the lines of a cache hold after each change
pub use Rattle.cache_array.proofs.Lines.{held_of-others, held_of-put_first, held_of-touched, held_of-with_line_mode, held_of-with_word}
-- ---- and their words
pub use Rattle.cache_array.proofs.Lines.{words_of-others, words_of-put_first, words_of-touched, words_of-with_line_mode, words_of-with_word}
