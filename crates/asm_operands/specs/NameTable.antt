-- The names that a source defines, each with what it stands for.
use Rattle.std.specs.Prelude.{◌≡◌, ℕ, ℤ, List, Option, Some, None, if◌then◌else◌}
use Rattle.std.specs.Option.{option_map}
use Rattle.std.specs.Borrow.{Bor}
use Rattle.std.specs.HashMap.{HashMap, get_by}
use Rattle.std.specs.Str.{bytes_eq}
use Rattle.asm_operands.specs.declared.names.Named.{Named}
use Rattle.asm_operands.specs.Numbers.{value_in}

-- names with what each stands for
abbrev pub NamesValue : Type 0
NamesValue = List (List ℕ × Named)

-- what a name stands for, if it is defined
unfoldable pub named : NamesValue → List ℕ → Option Named
named names name = value_in names name

abbrev pub constant_value : Option Named → Option ℤ
constant_value None = None
constant_value (Some named) = if named.constant then Some named.value else None

-- these names are defined, each with its value
abbrev pub HasNames : NamesValue → List (List ℕ × ℤ) → Type 0
HasNames names values = (name : List ℕ) → option_map (λ named. named.value) (named names name) ≡ value_in values name

-- these names of `.equ` are, each with its value
abbrev pub HasConstants : NamesValue → List (List ℕ × ℤ) → Type 0
HasConstants names equs = (name : List ℕ) → constant_value (named names name) ≡ value_in equs name

-- what a hash map has for a name
unfoldable pub stored : {S : Type 0} → HashMap (Bor (List ℕ)) Named S → List ℕ → Option Named
stored table name = get_by (λ key. bytes_eq name key.now) table
