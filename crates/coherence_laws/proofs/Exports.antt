-- The lemmas and words of this crate's proofs that other crates may name. They name no other file of these proofs.

-- ---- the facts of all cores, at boundaries and within a slot
pub use Rattle.coherence_laws.proofs.Fine.{FineCore, at_some, no_victim}
pub use Rattle.coherence_laws.proofs.Whole.{IsWhole, IsLess, want_unowned, whole_coherent, whole_later}
pub use Rattle.coherence_laws.proofs.Phases.{instructions_kept}
pub use Rattle.coherence_laws.proofs.Fills.{filled_else}
pub use Rattle.coherence_laws.proofs.WriteBacks.{written_else}
pub use Rattle.coherence_laws.proofs.Acts.{post_whole, fill_whole, back_whole}
pub use Rattle.coherence_laws.proofs.Slots.{kind_named, unposted_now, nobody_at_all, post_fill_whole, whole_at, phases_at, phases_coherent, stays_coherent}
pub use Rattle.coherence_laws.proofs.Counts.{posted_within, backs_fewer, backs_fit}
-- ---- memory, wants and lines
pub use Rattle.coherence_laws.proofs.ApartMemory.{access_memory, stays_memory}
pub use Rattle.coherence_laws.proofs.ApartWants.{IsAsked, want_asked_between}
pub use Rattle.coherence_laws.proofs.ApartLines.{bytes_within, line_after_other}
-- ---- the phases of all cores, against the phase of one core alone
pub use Rattle.coherence_laws.proofs.ApartPhases.{IsFramed}
pub use Rattle.coherence_laws.proofs.Touches.{touches_by-append, touches_own, touches_other, touches_above}
pub use Rattle.coherence_laws.proofs.Apart.{phase_framed, sound_at, ownerless_line, phases_are_apart}
