-- What bytes say of a trace: a trace, or the first fault from the top. A line ends with its newline; what stands behind the
-- last newline is no line. Fields are parted by single blanks, and a number has no leading zeros, so that a line says one
-- thing at most, and each thing has one spelling.
use Rattle.std.specs.Prelude.{◌≡◌, ℕ, ◌+◌, Bool, true, false, not, ◌&&◌, ◌==◌, nat_le, if◌then◌else◌, List, [], ◌∷◌, ◌++◌, length, codes, decimal, Option, Some, None, Result, Ok, Err}
use Rattle.std.specs.Char.{is_ascii_digit}
use Rattle.std.specs.List.{list_all, slice_split}
use Rattle.std.specs.Option.{option_map}
use Rattle.std.specs.Str.{bytes_eq}
use Rattle.std.specs.Str.Parse.{digits_value}
use Rattle.pmsi_model.specs.declared.Action.{Action}
use Rattle.pmsi_model.specs.declared.Action.TheVariants.{Idle, Post, Fill, PostFill, Back}
use Rattle.pmsi_model.specs.declared.Name.{Name}
use Rattle.pmsi_model.specs.declared.Name.TheVariants.{GetS, GetM, Upg}
use Rattle.pmsi_model.specs.declared.limits.TheConstants.{MAX_CORES, MAX_SLOTS}
use Rattle.pmsi_model.specs.Slots.{SlotPlan, owner_of_slot, plain_plan}
use Rattle.trace_text.specs.declared.fault.TraceFault.{TraceFault}
use Rattle.trace_text.specs.declared.fault.TraceFault.TheVariants.{Line, Order, End}
use Rattle.trace_text.specs.declared.row.Row.{Row}
use Rattle.trace_text.specs.declared.row.Row.TheVariants as row
use Rattle.trace_text.specs.declared.trace.Trace.{Trace}
use Rattle.trace_text.specs.declared.trace.TheConstants.{MAX_LINE}

-- ---- numbers

abbrev pub has_plain_start : List ℕ → Bool
has_plain_start [] = false
has_plain_start (digit ∷ []) = true
has_plain_start (digit ∷ next ∷ digits) = not (digit == 48)

-- a number of any size: decimal digits without a leading zero
abbrev pub is_numeral : List ℕ → Bool
is_numeral field = has_plain_start field && list_all is_ascii_digit field

-- a number up to a limit
unfoldable pub number_in : ℕ → List ℕ → Option ℕ
number_in most field = if is_numeral field && nat_le (digits_value 10 field) most then Some (digits_value 10 field) else None

-- ---- actions

unfoldable pub name_in : List ℕ → Option Name
name_in field =
    if bytes_eq field (codes "GetS") then Some GetS
    else if bytes_eq field (codes "GetM") then Some GetM
    else if bytes_eq field (codes "Upg") then Some Upg
    else None

unfoldable pub kept_in : List ℕ → Option Bool
kept_in field = if bytes_eq field (codes "keep") then Some true else if bytes_eq field (codes "drop") then Some false else None

abbrev pub both : {A B C : Type 0} → (A → B → C) → Option A → Option B → Option C
both made None other = None
both made (Some a) None = None
both made (Some a) (Some b) = Some (made a b)

-- of one field, of two, and of three
unfoldable pub idle_in : List ℕ → Option Action
idle_in what = if bytes_eq what (codes "idle") then Some Idle else None

unfoldable pub fill_in : List ℕ → List ℕ → Option Action
fill_in what line = if bytes_eq what (codes "fill") then option_map Fill (number_in MAX_LINE line) else None

unfoldable pub long_in : List ℕ → List ℕ → List ℕ → Option Action
long_in what first second =
    if bytes_eq what (codes "post") then both Post (name_in first) (number_in MAX_LINE second)
    else if bytes_eq what (codes "postfill") then both PostFill (name_in first) (number_in MAX_LINE second)
    else if bytes_eq what (codes "back") then both Back (number_in MAX_LINE first) (kept_in second)
    else None

abbrev pub action_in : List (List ℕ) → Option Action
action_in [] = None
action_in (what ∷ []) = idle_in what
action_in (what ∷ line ∷ []) = fill_in what line
action_in (what ∷ first ∷ second ∷ []) = long_in what first second
action_in (what ∷ first ∷ second ∷ third ∷ more) = None

-- ---- lines

abbrev pub is_space : ℕ → Bool
is_space byte = byte == 32

abbrev pub fields_of : List ℕ → List (List ℕ)
fields_of line = slice_split is_space line

abbrev pub is_newline : ℕ → Bool
is_newline byte = byte == 10

-- the line of a slot has this number, where lines are counted from 1
abbrev pub line_of_slot : ℕ → ℕ
line_of_slot slot = slot + 3

-- a line that names a slot and a core, and does or doesn't tell an action. Numbers have one spelling each, so they are
-- compared by it
unfoldable pub slot_row : SlotPlan → ℕ → List ℕ → List ℕ → Option Action → Result Row TraceFault
slot_row plan slot number core None = Err (Line (line_of_slot slot))
slot_row plan slot number core (Some action) =
    if nat_le MAX_SLOTS slot then Err (Line (line_of_slot slot))
    else if bytes_eq number (decimal slot) && bytes_eq core (decimal (owner_of_slot plan slot)) then Ok (row.Slot action)
    else Err (Order (line_of_slot slot))

-- a line that names the number of slots
unfoldable pub end_row : ℕ → List ℕ → Result Row TraceFault
end_row slot number = if bytes_eq number (decimal slot) then Ok row.End else Err End

-- the line behind those of the slots before this one: `slot S core C ACTION` or `end K`
unfoldable pub row_in : SlotPlan → ℕ → List (List ℕ) → Result Row TraceFault
row_in plan slot [] = Err (Line (line_of_slot slot))
row_in plan slot (word ∷ []) = Err (Line (line_of_slot slot))
row_in plan slot (word ∷ number ∷ []) =
    if bytes_eq word (codes "end") && is_numeral number then end_row slot number else Err (Line (line_of_slot slot))
row_in plan slot (word ∷ number ∷ name ∷ []) = Err (Line (line_of_slot slot))
row_in plan slot (word ∷ number ∷ name ∷ core ∷ action) =
    if bytes_eq word (codes "slot") && is_numeral number && bytes_eq name (codes "core") && is_numeral core
    then slot_row plan slot number core (action_in action) else Err (Line (line_of_slot slot))

-- ---- the whole

-- the first part, and what follows it, where there is a mark between
abbrev pub first_line : List (List ℕ) → Option (List ℕ × List (List ℕ))
first_line [] = None
first_line (rest ∷ []) = None
first_line (line ∷ next ∷ more) = Some (line, next ∷ more)

-- bytes end where a line is to begin, or in it
abbrev pub on_line : Option (List ℕ × List (List ℕ)) → (List ℕ → List (List ℕ) → Result Trace TraceFault) → Result Trace TraceFault
on_line None read = Err End
on_line (Some found) read = read found.0 found.1

-- nothing stands behind the last line
abbrev pub is_last : List (List ℕ) → Bool
is_last [] = false
is_last ([] ∷ []) = true
is_last ([] ∷ next ∷ more) = false
is_last ((byte ∷ bytes) ∷ more) = false

abbrev pub ended : Trace → List (List ℕ) → Result Trace TraceFault
ended trace rest = if is_last rest then Ok trace else Err End

abbrev pub on_row : Result Row TraceFault → Result Trace TraceFault → (Action → Result Trace TraceFault) → Result Trace TraceFault
on_row (Err fault) ends goes_on = Err fault
on_row (Ok row.End) ends goes_on = ends
on_row (Ok (row.Slot action)) ends goes_on = goes_on action

-- the lines behind those of some actions, and last what stands behind the last newline
unfoldable pub rows_in : ℕ → List Action → List (List ℕ) → Result Trace TraceFault
rows_in cores actions [] = Err End
rows_in cores actions (rest ∷ []) = Err End
rows_in cores actions (line ∷ next ∷ more) =
    on_row (row_in (plain_plan cores) (length actions) (fields_of line)) (ended (record { cores = cores; actions = actions }) (next ∷ more))
    (λ action. rows_in cores (actions ++ action ∷ []) (next ∷ more))

-- `cores N`
abbrev pub if_some_core : Option ℕ → Option ℕ
if_some_core None = None
if_some_core (Some cores) = if nat_le 1 cores then Some cores else None

unfoldable pub cores_in : List (List ℕ) → Option ℕ
cores_in [] = None
cores_in (word ∷ []) = None
cores_in (word ∷ number ∷ []) = if bytes_eq word (codes "cores") then if_some_core (number_in MAX_CORES number) else None
cores_in (word ∷ number ∷ next ∷ more) = None

abbrev pub with_cores : Option ℕ → List (List ℕ) → Result Trace TraceFault
with_cores None lines = Err (Line 2)
with_cores (Some cores) lines = rows_in cores [] lines

-- behind the first line
unfoldable pub cores_first : List (List ℕ) → Result Trace TraceFault
cores_first parts = on_line (first_line parts) (λ line rest. with_cores (cores_in (fields_of line)) rest)

unfoldable pub version_first : List (List ℕ) → Result Trace TraceFault
version_first parts = on_line (first_line parts) (λ line rest. if bytes_eq line (codes "pmsi trace 1") then cores_first rest else Err (Line 1))

unfoldable pub reading_of : List ℕ → Result Trace TraceFault
reading_of bytes = version_first (slice_split is_newline bytes)

-- bytes have this fault: the first from the top
abbrev pub HasTraceFault : List ℕ → TraceFault → Type 0
HasTraceFault bytes fault = reading_of bytes ≡ Err fault
