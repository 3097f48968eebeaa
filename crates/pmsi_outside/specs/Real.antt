-- Files of the disk, as contracts see them.
use Rattle.std.specs.Prelude.{ℕ, List, Option}

-- the name of the open file, the name blamed last, and how often a call has failed
pub record DiskFilesValue : Type 0 where
  pub name : Option (List ℕ)
  pub blamed : Option (List ℕ)
  pub faults : ℕ
