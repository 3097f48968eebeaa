-- Why a command stops on files.
use Rattle.std.specs.Prelude.{◌≡◌, ℕ, ⊤, List, Option, Some}
use Rattle.pmsi_outside.specs.Causes.{Rose}
use Rattle.pmsi_outside.specs.Files.{Contents}
use Rattle.tool_files.specs.declared.refusal.Detail.{Detail}
use Rattle.tool_files.specs.declared.refusal.Place.{Place}
use Rattle.tool_files.specs.declared.refusal.Stop.{Stop}
use Rattle.tool_files.specs.declared.refusal.Stop.TheVariants.{ReadFault, Refused, NoMemory}
use Rattle.tool_files.specs.Course.{Course, opens, refuses}

-- files in a call: their contents, where they are told, their counts of faults before and after, and the name that is blamed after
pub record FilesCall : Type 0 where
  pub contents : Option Contents
  pub before : ℕ
  pub now : ℕ
  pub blamed : Option (List ℕ)

abbrev pub files_call : Option Contents → ℕ → ℕ → Option (List ℕ) → FilesCall
files_call contents before now blamed = record { contents = contents; before = before; now = now; blamed = blamed }

-- the count rose, and the name blamed is one that the course opens
pub record Faults {V : Type 0} (course : Course V) (files : FilesCall) : Type 0 where
  pub rose : Rose files.before files.now
  pub name : List ℕ
  pub opened : course (opens name)
  pub blame : files.blamed ≡ Some name

-- why a course is stopped; want of memory needs no cause
abbrev pub Stops : {V : Type 0} → Course V → FilesCall → Stop → Type 0
Stops course files ReadFault = Faults course files
Stops course files (Refused place detail) = course (refuses place detail)
Stops course files NoMemory = ⊤

-- why something at a place is refused
abbrev pub StopsAt : Place → (Detail → Type 0) → Stop → Type 0
StopsAt place Fails ReadFault = ⊥
StopsAt place Fails (Refused at detail) = (at ≡ place) × Fails detail
StopsAt place Fails NoMemory = ⊤
