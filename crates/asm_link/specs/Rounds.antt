-- What the two rounds of the code have done after some lines.
use Rattle.std.specs.Prelude.{◌≡◌, ℕ, ℤ, ◌+◌, ◌*◌, ◌≤◌, Bool, not, nat_lt, ◌&&◌, ◌==◌, List, [], ◌∷◌, ◌++◌, length, if◌then◌else◌, Option, Some, None}
use Rattle.std.specs.List.{All, AllZip, filter}
use Rattle.asm_parse.specs.declared.fault.AsmCause.{AsmCause}
use Rattle.asm_parse.specs.declared.fault.AsmFault.{AsmFault}
use Rattle.asm_parse.specs.declared.place.Place.{Place}
use Rattle.pmsi_model.specs.declared.limits.TheConstants.{MAX_TEXT_WORDS, MAX_MEMORY}
use Rattle.asm_operands.specs.NameTable.{HasNames, HasConstants}
use Rattle.asm_parse.specs.Assembly.{Before, at_start, after_step, step_of, at_line, first_of, Step, Statement, has_byte, here, items_of, text_fault, range_fault, overlap_fault, size_of}
use Rattle.asm_parse.specs.Items.{IsSound, statement_of}
use Rattle.asm_link.specs.declared.layout.Layout.{Layout}
use Rattle.asm_link.specs.declared.step.Step as kept
use Rattle.asm_parse.specs.declared.statement.Statement as read
use Rattle.asm_link.specs.Bytes.{byte_of}
use Rattle.asm_link.specs.Filled.{HasRoom}

-- what some steps leave for the next ones
unfoldable pub before_of : Before → List Step → Before
before_of b [] = b
before_of b (step ∷ steps) = before_of (after_step b step) steps

-- steps that put items somewhere
abbrev pub has_items : Step → Bool
has_items step = not (length (items_of step.does) == 0)

-- the bytes that a statement names, in its place
abbrev pub runs_of : Place → Statement → List (ℕ × ℕ)
runs_of place does = if place.in_data && nat_lt 0 (size_of does) then (place.data_at, size_of does) ∷ [] else []

-- what is kept of a statement in its place
abbrev pub kept_of : ℕ → Place → read.Statement → List kept.Step
kept_of number place does =
    if not (length (items_of (statement_of does)) == 0) then record { number = number; in_data = place.in_data; address = here place; does = does } ∷ []
    else []

-- what is kept of a step
pub record IsStep (step : kept.Step) (of : Step) : Type 0 where
  pub number : step.number ≡ of.number
  pub in_data : step.in_data ≡ of.place.in_data
  pub address : step.address ≡ here of.place
  pub items : items_of (statement_of step.does) ≡ items_of of.does
  pub sound : IsSound step.in_data step.does

-- the bytes that runs name are 0 so far
abbrev pub IsNamed : List (Option ℕ) → List (ℕ × ℕ) → Type 0
IsNamed memory runs = (address : ℕ) → byte_of memory address ≡ (if has_byte runs address then Some 0 else None)

-- the next addresses are within their spaces
abbrev pub IsWithin : Place → Type 0
IsWithin place = (place.text_at ≤ 4 * MAX_TEXT_WORDS) × (place.data_at ≤ MAX_MEMORY)

-- what is wrong with a statement's size, or with the bytes that it names
abbrev pub room_fault : Before → Statement → Option AsmCause
room_fault b does = first_of (text_fault b.place does ∷ range_fault b.place does ∷ overlap_fault b does ∷ [])

-- the layout after these steps, none of which has a fault
pub record IsLayout (layout : Layout) (steps : List Step) : Type 0 where
  pub number : layout.number ≡ length steps + 1
  pub faultless : All (λ step. step.fault ≡ None) steps
  pub place : layout.place ≡ (before_of at_start steps).place
  pub names : HasNames layout.names (before_of at_start steps).names
  pub equs : HasConstants layout.names (before_of at_start steps).equs
  pub memory : IsNamed layout.memory (before_of at_start steps).runs
  pub kept : AllZip IsStep layout.steps.items (filter has_items steps)

-- the step that a line is behind some steps
abbrev pub next_step : List Step → List ℕ → Step
next_step steps line = step_of (length steps + 1) (before_of at_start steps) line

-- the line was added, as the next step
abbrev pub AddsLine : List ℕ → Layout → Layout → Type 0
AddsLine line old new = (steps : List Step) → IsLayout old steps → IsLayout new (steps ++ next_step steps line ∷ [])

-- the line has this fault
abbrev pub RefusesLine : List ℕ → Layout → AsmFault → Type 0
RefusesLine line layout fault = (steps : List Step) → IsLayout layout steps → at_line layout.number (next_step steps line).fault ≡ Some fault

-- each line that is kept has room for its bytes, whatever its names come to
abbrev pub HasAllRoom : Layout → Type 0
HasAllRoom layout = (names : List (List ℕ × ℤ)) → All (HasRoom names layout.memory) layout.steps.items

abbrev pub KeepsRoom : Layout → Layout → Type 0
KeepsRoom old new = HasAllRoom old → HasAllRoom new
