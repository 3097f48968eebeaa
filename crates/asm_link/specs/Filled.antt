-- What the second round makes of the lines that are kept.
use Rattle.std.specs.Prelude.{◌≡◌, ℕ, ◌+◌, ◌<◌, ◌≤◌, ℤ, if◌then◌else◌, List, [], ◌∷◌, length, map, Option, None, IsSome}
use Rattle.std.specs.Option.{option_or}
use Rattle.std.specs.List.{flat_map}
use Rattle.pmsi_model.specs.declared.limits.TheConstants.{MAX_MEMORY}
use Rattle.asm_parse.specs.declared.fault.AsmCause.{AsmCause}
use Rattle.asm_parse.specs.Mnemonics.{Code, Item}
use Rattle.asm_parse.specs.Items.{IsSound, statement_of}
use Rattle.asm_parse.specs.declared.fault.AsmFault.{AsmFault}
use Rattle.asm_parse.specs.Assembly.{at_line, byte_in, code_bytes, first_of, items_of}
use Rattle.asm_link.specs.declared.step.Step.{Step}
use Rattle.asm_link.specs.Bytes.{byte_of}
use Rattle.asm_link.specs.Placed.{codes_in, faults_in}

abbrev pub items_at : Step → List (ℕ × Item)
items_at step = items_of (statement_of step.does)

-- what is wrong with a line, with these names
abbrev pub step_fault : List (List ℕ × ℤ) → Step → Option AsmCause
step_fault names step = faults_in names step.address (items_at step)

abbrev pub step_codes : List (List ℕ × ℤ) → Step → List Code
step_codes names step = codes_in names step.address (items_at step)

-- what a line of text comes to
abbrev pub text_codes : List (List ℕ × ℤ) → Step → List Code
text_codes names step = if step.in_data then [] else step_codes names step

-- the bytes of a line of data
abbrev pub data_bytes : List (List ℕ × ℤ) → Step → List ℕ
data_bytes names step = if step.in_data then flat_map code_bytes (step_codes names step) else []

-- the first line with a fault
abbrev pub first_later : List (List ℕ × ℤ) → List Step → Option AsmFault
first_later names steps = first_of (map (λ step. at_line step.number (step_fault names step)) steps)

-- the byte that the last line with a byte at an address puts there
unfoldable pub last_byte : List (List ℕ × ℤ) → List Step → ℕ → Option ℕ
last_byte names [] address = None
last_byte names (step ∷ steps) address = option_or (last_byte names steps address) (byte_in address (step.address, data_bytes names step))

-- a line that is kept
abbrev pub IsKept : Step → Type 0
IsKept step = IsSound step.in_data step.does × (step.address ≤ MAX_MEMORY)

-- the bytes of a line are named, and end within the greatest memory
abbrev pub HasRoom : List (List ℕ × ℤ) → List (Option ℕ) → Step → Type 0
HasRoom names memory step =
    ((k : ℕ) → k < length (data_bytes names step) → IsSome (byte_of memory (step.address + k)))
    × (step.address + length (data_bytes names step) ≤ MAX_MEMORY)

-- a line's bytes were put
abbrev pub PutsBytes : List (List ℕ × ℤ) → Step → List (Option ℕ) → List (Option ℕ) → Type 0
PutsBytes names step old new =
    (address : ℕ) → byte_of new address ≡ option_or (byte_in address (step.address, data_bytes names step)) (byte_of old address)

-- the bytes of all these lines were put, in their order
abbrev pub PutsAll : List (List ℕ × ℤ) → List Step → List (Option ℕ) → List (Option ℕ) → Type 0
PutsAll names steps old new = (address : ℕ) → byte_of new address ≡ option_or (last_byte names steps address) (byte_of old address)
