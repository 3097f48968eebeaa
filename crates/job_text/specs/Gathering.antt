-- What the code keeps of the lines so far.
use Rattle.std.specs.Prelude.{◌≡◌, ℕ, ◌<◌, List, slice_index_or, None}
use Rattle.std.specs.BTreeMap.{get}
use Rattle.std.specs.Ordering.{nat_cmp}
use Rattle.job_text.specs.declared.gathered.Gathered.{Gathered}
use Rattle.job_text.specs.declared.saying.Saying.{Saying}
use Rattle.job_text.specs.Faults.{cores_in, number_at, program_of}

-- it has what was said
pub record HasSaid (gathered : Gathered) (said : List Saying) : Type 0 where
  pub numbers : (place : ℕ) → place < 9 → slice_index_or gathered.numbers place None ≡ number_at place said
  pub cores : gathered.cores.items ≡ cores_in said
  pub programs : (core : ℕ) → get nat_cmp gathered.programs core ≡ program_of core said
