-- The words that are made, and the room for the rest.
use Rattle.std.proofs.Common.{◌≡◌, ℕ, ◌<◌, ◌≤◌, slice_index, vec_len, vec_capacity}
use Rattle.pmsi_model.specs.Parts.{word_at}
use Rattle.memory_lut.proofs.words.MemoryWords.from_bytes.Given as goal

abbrev pub invariant-loop-i : goal.invariant-loop-i
invariant-loop-i l = (vec_len l.items ≡ l.i) × (l.i-end ≤ vec_capacity l.items) × ((k : ℕ) → k < l.i → slice_index l.items.items k ≡ word_at l.bytes k)
