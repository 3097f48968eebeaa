-- What the fields of the files in memory stand for.
use Rattle.std.specs.Prelude.{ℕ, ◌<◌, ◌≤◌, List, length, drop, Option, None, Some, String, Vec, string_bytes, ⊤}
use Rattle.std.specs.Option.{option_map}
use Rattle.std.specs.declared.alloc.Global.{Global}
use Rattle.pmsi_outside.specs.declared.memory.shelf.OpenFile.{OpenFile}
use Rattle.pmsi_outside.specs.Memory.{Entries, entries_of, bytes_at, Opened, ShelfValue}

-- an open file has left what stands behind the bytes that were read
abbrev pub opened_of : Entries → OpenFile → Opened
opened_of entries file = record { name = string_bytes file.name; left = drop file.read (bytes_at entries file.place) }

abbrev pub shelf_value : List (String Global × Vec ℕ Global) → Option OpenFile → Option (String Global) → ℕ → ShelfValue
shelf_value list file blamed faults = record {
  entries = entries_of list;
  file = option_map (opened_of (entries_of list)) file;
  blamed = option_map string_bytes blamed;
  faults = faults;
}

-- an open file is one of the list, and no more of it was read than it has
abbrev pub IsPlace : List (String Global × Vec ℕ Global) → Option OpenFile → Type 0
IsPlace list None = ⊤
IsPlace list (Some file) = (file.place < length list) × (file.read ≤ length (bytes_at (entries_of list) file.place))
