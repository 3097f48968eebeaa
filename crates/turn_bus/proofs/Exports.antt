-- The lemmas of this crate's proofs that other crates may name. They name no other file of these proofs.
pub use Rattle.turn_bus.proofs.Seatings.{seated_more, left_next, next_left, all_left, ends, bus_of_left}
