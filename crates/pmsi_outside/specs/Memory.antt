-- Files and a sink in memory, as contracts see them.
use Rattle.std.specs.Prelude.{◌≡◌, ℕ, ◌-◌, ◌==◌, Bool, if◌then◌else◌, min, List, [], ◌∷◌, ◌++◌, length, take, drop, map, slice_index_or, Option, None, Some, String, Vec, string_bytes}
use Rattle.std.specs.List.{list_any}
use Rattle.std.specs.Option.{option_map}
use Rattle.std.specs.Str.{bytes_eq}
use Rattle.std.specs.declared.alloc.Global.{Global}
use Rattle.pmsi_outside.specs.Causes.{counted}
use Rattle.pmsi_outside.specs.Files.{Contents}

-- names with their contents
abbrev pub Entries : Type 0
Entries = List (List ℕ × List ℕ)

-- a list of files, by the bytes of their names
abbrev pub entries_of : List (String Global × Vec ℕ Global) → Entries
entries_of list = map (λ entry. (string_bytes entry.0, entry.1.items)) list

-- the contents of the first entry of a name
abbrev pub contents_of : Entries → Contents
contents_of [] name = None
contents_of (entry ∷ entries) name = if bytes_eq entry.0 name then Some entry.1 else contents_of entries name

-- the contents of the entry at a place
abbrev pub bytes_at : Entries → ℕ → List ℕ
bytes_at entries place = (slice_index_or entries place ([], [])).1

-- an open file: its name, and the bytes that it has left
pub record Opened : Type 0 where
  pub name : List ℕ
  pub left : List ℕ

-- files in memory, of which at most one is open
pub record ShelfValue : Type 0 where
  pub entries : Entries
  pub file : Option Opened
  pub blamed : Option (List ℕ)
  pub faults : ℕ

-- no call has been made
abbrev pub new_shelf : Entries → ShelfValue
new_shelf entries = record { entries = entries; file = None; blamed = None; faults = 0 }

-- a file is open at these bytes
abbrev pub opened : ShelfValue → List ℕ → List ℕ → ShelfValue
opened shelf name left = record shelf { file = Some (record { name = name; left = left }) }

-- a call of this name has failed
abbrev pub failed : ShelfValue → List ℕ → ShelfValue
failed shelf name = record shelf { file = None; blamed = Some name; faults = counted shelf.faults }

-- the calls that have been made, and the numbers of those that fail
pub record ScheduleValue : Type 0 where
  pub fails : List ℕ
  pub calls : ℕ

-- no call has been made
abbrev pub new_schedule : List ℕ → ScheduleValue
new_schedule fails = record { fails = fails; calls = 0 }

-- whether the next call fails
abbrev pub fails_next : ScheduleValue → Bool
fails_next schedule = list_any (λ number. number == counted schedule.calls) schedule.fails

-- one more call has been made
abbrev pub after_call : ScheduleValue → ScheduleValue
after_call schedule = record schedule { calls = counted schedule.calls }

-- a call of `read`: its buffer before and after, and how many bytes it gives
pub record ReadCall : Type 0 where
  pub before : List ℕ
  pub after : List ℕ
  pub given : ℕ

abbrev pub read_call : List ℕ → List ℕ → ℕ → ReadCall
read_call before after given = record { before = before; after = after; given = given }

-- a read gives the next bytes of the open file: as many as may be given, as fit, and as are left
pub record Gives (most : ℕ) (old new : ShelfValue) (call : ReadCall) (file : Opened) : Type 0 where
  pub count : call.given ≡ min (min most (length call.before)) (length file.left)
  pub bytes : call.after ≡ take call.given file.left ++ drop call.given call.before
  pub after : new ≡ opened old file.name (drop call.given file.left)

-- what the open file has left
abbrev pub left_of : ShelfValue → Option (List ℕ)
left_of shelf = option_map (λ file. file.left) shelf.file

-- the name of the open file
abbrev pub name_of : ShelfValue → Option (List ℕ)
name_of shelf = option_map (λ file. file.name) shelf.file

-- files that fail by a schedule, and give at most a step of bytes a read
pub record MemoryFilesValue : Type 0 where
  pub shelf : ShelfValue
  pub schedule : ScheduleValue
  pub step : ℕ

-- no call has been made
abbrev pub new_files : Entries → List ℕ → ℕ → MemoryFilesValue
new_files entries fails step = record { shelf = new_shelf entries; schedule = new_schedule fails; step = step }

-- the state after a failed call of this name
abbrev pub after_failure : MemoryFilesValue → List ℕ → MemoryFilesValue
after_failure files name = record files { shelf = failed files.shelf name; schedule = after_call files.schedule }

-- the state after a call of `open`, where the name has these contents
abbrev pub after_found : MemoryFilesValue → List ℕ → List ℕ → MemoryFilesValue
after_found files name bytes = record files { shelf = opened files.shelf name bytes; schedule = after_call files.schedule }

-- a read gives the next bytes of the open file, at most a step of them
pub record GivesStep (old new : MemoryFilesValue) (call : ReadCall) (file : Opened) : Type 0 where
  pub shelf : Gives old.step old.shelf new.shelf call file
  pub schedule : new.schedule ≡ after_call old.schedule
  pub step : new.step ≡ old.step

-- what a sink holds, how many bytes of room it has left, and how it fails
pub record MemorySinkValue : Type 0 where
  pub held : List ℕ
  pub room : ℕ
  pub step : ℕ
  pub schedule : ScheduleValue
  pub faults : ℕ

-- an empty sink with so much room
abbrev pub new_sink : ℕ → List ℕ → ℕ → MemorySinkValue
new_sink room fails step = record { held = []; room = room; step = step; schedule = new_schedule fails; faults = 0 }

-- the state after a failed call
abbrev pub sink_failure : MemorySinkValue → MemorySinkValue
sink_failure sink = record sink { schedule = after_call sink.schedule; faults = counted sink.faults }

-- a write takes the front of the piece: as much as a step, and as there is room for
pub record Takes (old new : MemorySinkValue) (piece : List ℕ) (taken : ℕ) : Type 0 where
  pub count : taken ≡ min (min (length piece) old.step) old.room
  pub after : new ≡ record old { held = old.held ++ take taken piece; room = old.room - taken; schedule = after_call old.schedule }
