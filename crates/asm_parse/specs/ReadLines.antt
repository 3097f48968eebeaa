-- A line that was read by itself.
use Rattle.std.specs.Prelude.{◌≡◌, ℕ, ℤ, List, Option, None}
use Rattle.asm_parse.specs.declared.place.Place.{Place}
use Rattle.asm_parse.specs.declared.fault.AsmCause.{AsmCause}
use Rattle.asm_parse.specs.declared.statement.Line.{Line}
use Rattle.asm_operands.specs.Tokens.{code_of}
use Rattle.asm_operands.specs.Operands.{lexemes_of}
use Rattle.asm_parse.specs.Assembly.{Asked, asked, behind_labels, labels_of, reading_fault, statement_of}
use Rattle.asm_operands.specs.Meanings.{lexemes}
use Rattle.asm_parse.specs.Items as items

abbrev pub asked_by : Place → List (List ℕ × ℤ) → List ℕ → Asked
asked_by place equs line = asked place equs (behind_labels (lexemes_of (code_of line)))

-- what is wrong with a line by itself
abbrev pub fault_of : Place → List (List ℕ × ℤ) → List ℕ → Option AsmCause
fault_of place equs line = reading_fault line (asked_by place equs line)

-- nothing is, and the line has these labels and does this
pub record IsReadAs (place : Place) (equs : List (List ℕ × ℤ)) (line : List ℕ) (read : Line) : Type 0 where
  pub faultless : fault_of place equs line ≡ None
  pub labels : lexemes read.labels.items ≡ labels_of (lexemes_of (code_of line))
  pub does : items.statement_of read.does ≡ statement_of (asked_by place equs line)
