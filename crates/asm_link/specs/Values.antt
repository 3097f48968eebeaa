-- The values of names.
use Rattle.std.specs.Prelude.{ℕ, ℤ, List, map}
use Rattle.asm_operands.specs.NameTable.{NamesValue}

-- names with their values
unfoldable pub held : NamesValue → List (List ℕ × ℤ)
held names = map (λ entry. (entry.0, entry.1.value)) names
