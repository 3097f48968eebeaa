-- The lemmas of this crate's proofs that other crates may name.
pub use Rattle.tool_files.proofs.Courses.{After, kind_on, planned_on, job_on, stops_on}
pub use Rattle.tool_files.proofs.Ends.{one_end}
pub use Rattle.tool_files.proofs.Follows.{comes_read, read_comes}
