-- The lemmas of this crate's proofs that other crates may name. They name no other file of these proofs.

-- ---- the facts of a core that its states rest on
pub use Rattle.cache_ctrl.proofs.Settled.{IsSettled, settled_of, behind_unheld}
-- ---- another core's request is posted, or filled
pub use Rattle.cache_ctrl.proofs.Others.{noted_done, other_posts, other_posts_else, other_fills}
-- ---- the core's own request is posted, or filled
pub use Rattle.cache_ctrl.proofs.Own.{want_request, own_posts, own_posts_else}
pub use Rattle.cache_ctrl.proofs.Behind.{has_behind_first}
pub use Rattle.cache_ctrl.proofs.Fills.{fill_duty, filled_backs, filled_state, own_fills, own_fills_else}
-- ---- a line is written back
pub use Rattle.cache_ctrl.proofs.Own.{waiting_state, writes_back, writes_back_else}
-- ---- a line is chosen to go, and an access with permission
pub use Rattle.cache_ctrl.proofs.Chooses.{choose_duty, chosen_held, chosen_backs, chooses, misses_else, accesses_same}
-- ---- a list of states that has the named states of a core's lines, and how long it can be
pub use Rattle.cache_ctrl.proofs.Knows.{stable_state_of, transient_state_of, knows_set, knows_same, knows_step, known_entry}
pub use Rattle.cache_ctrl.proofs.Knows.{transient_set, entry_transient, all_but_one, knows_within, knows_room}
pub use Rattle.cache_ctrl.proofs.Listed.{state_set, fewer_others}
