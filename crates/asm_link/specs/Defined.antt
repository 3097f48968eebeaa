-- What defining names leaves.
use Rattle.std.specs.Prelude.{◌≡◌, ℕ, ℤ, pos, List, [], ◌∷◌, ◌++◌, map, if◌then◌else◌, Some, None}
use Rattle.asm_parse.specs.declared.fault.AsmFault.{AsmFault}
use Rattle.asm_operands.specs.declared.names.Named.{Named}
use Rattle.asm_operands.specs.NameTable.{NamesValue, HasNames, HasConstants}
use Rattle.asm_operands.specs.declared.lexeme.Lexeme as written
use Rattle.asm_operands.specs.Meanings.{lexeme}
use Rattle.asm_operands.specs.Operands.{Lexeme}
use Rattle.asm_parse.specs.Assembly.{Statement, at_line, defined_by, equs_of, first_twice}

abbrev pub names_in : List (List ℕ × ℤ) → List (List ℕ)
names_in names = map (λ name. name.0) names

-- labels, each with its address
abbrev pub labelled : List Lexeme → ℕ → List (List ℕ × ℤ)
labelled labels address = map (λ label. (label.text, pos address)) labels

-- none of these names was defined before, and the table has them now, with these values; of these, some are constants
abbrev pub Defines : NamesValue → NamesValue → List Lexeme → List (List ℕ × ℤ) → List (List ℕ × ℤ) → Type 0
Defines old new found more constants =
    (names equs : List (List ℕ × ℤ)) → HasNames old names → HasConstants old equs
    → (first_twice (names_in names) found ≡ None) × HasNames new (names ++ more) × HasConstants new (equs ++ constants)

-- a name with its value, if it is a constant
abbrev pub constant_if : List ℕ → Named → List (List ℕ × ℤ)
constant_if name named = if named.constant then (name, named.value) ∷ [] else []

-- a statement's name was, if it defines one
abbrev pub DefinesConstant : NamesValue → NamesValue → Statement → Type 0
DefinesConstant old new does = Defines old new (defined_by does) (equs_of does) (equs_of does)

-- one name was, as this value
abbrev pub DefinesOne : NamesValue → NamesValue → written.Lexeme → Named → Type 0
DefinesOne old new name value = Defines old new (lexeme name ∷ []) ((name.text.now, value.value) ∷ []) (constant_if name.text.now value)

-- one of these names was defined before
abbrev pub RefusesTwice : NamesValue → ℕ → List Lexeme → AsmFault → Type 0
RefusesTwice old number found fault =
    (names equs : List (List ℕ × ℤ)) → HasNames old names → HasConstants old equs
    → at_line number (first_twice (names_in names) found) ≡ Some fault
