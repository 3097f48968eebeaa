-- Items in their places, and the faults that show once all names are known.
use Rattle.std.specs.Prelude.{◌≡◌, ℕ, ℤ, pos, List, map, ◌++◌, Option}
use Rattle.std.specs.List.{AllZip}
use Rattle.pmsi_model.specs.Words.{word_of, bytes_of}
use Rattle.asm_operands.specs.declared.expr.Expr as written
use Rattle.asm_parse.specs.declared.item.Width.{Width}
use Rattle.asm_operands.specs.Meanings.{expr}
use Rattle.asm_operands.specs.Operands.{expr_value}
use Rattle.asm_parse.specs.Items.{bytes_in, fits_in}
use Rattle.asm_parse.specs.declared.fault.AsmCause.{AsmCause}
use Rattle.asm_parse.specs.Mnemonics.{Code, Item}
use Rattle.asm_parse.specs.Assembly.{first_of, placed_from, unknown_item, named_number_fault, reach_fault, code_at, value_fault, value_or_zero, IsWordOf}

-- an item of so many bytes
abbrev pub wide : ℕ → Item → ℕ × Item
wide width item = (width, item)

-- the first cause of the second round among items with their addresses
unfoldable pub faults_of : List (List ℕ × ℤ) → List (ℕ × Item) → Option AsmCause
faults_of names placed =
    first_of (map (λ item. unknown_item names item.1) placed
    ++ map (λ item. named_number_fault names item.1) placed
    ++ map (λ item. reach_fault names (pos item.0) item.1) placed)

abbrev pub faults_in : List (List ℕ × ℤ) → ℕ → List (ℕ × Item) → Option AsmCause
faults_in names address items = faults_of names (placed_from address items)

-- what items come to from an address on
abbrev pub codes_in : List (List ℕ × ℤ) → ℕ → List (ℕ × Item) → List Code
codes_in names address items = map (λ item. code_at names item.0 item.1) (placed_from address items)

-- words were put behind others, one for each of these
abbrev pub Appends : List Code → List ℕ → List ℕ → Type 0
Appends codes old new = (words : List ℕ) × (new ≡ old ++ words) × AllZip IsWordOf codes words

-- a number that is misspelt or out of its range
abbrev pub unfit : List (List ℕ × ℤ) → Width → written.Expr → Option AsmCause
unfit names width e = value_fault (expr_value names (expr e)) e.column (fits_in width)

-- a number as a word, and as bytes
abbrev pub number_word : List (List ℕ × ℤ) → written.Expr → ℕ
number_word names e = word_of (value_or_zero (expr_value names (expr e)))

abbrev pub number_bytes : List (List ℕ × ℤ) → Width → written.Expr → List ℕ
number_bytes names width e = bytes_of (bytes_in width) (number_word names e)
