-- What a source means: an image, or the first fault of two rounds over its lines. The first round reads each line, gives it
-- its place and defines its names; the second gives names their values.
use Rattle.std.specs.Prelude.{◌≡◌, ℕ, ◌+◌, ◌-◌, ◌*◌, ◌/◌, ℤ, pos, neg_ℤ, ◌-ℤ◌, Bool, true, false, not, ◌&&◌, nat_lt, nat_le, if◌then◌else◌, List, [], ◌∷◌, ◌++◌, map, length, codes, Option, Some, None, is_none, replicate, slice_get}
use Rattle.std.specs.Option.{option_map}
use Rattle.std.specs.List.{AllZip, filter, find, flat_map, list_any, position, range_with_len, sum_by}
use Rattle.std.specs.Str.{bytes_eq}
use Rattle.pmsi_model.specs.declared.limits.TheConstants.{MAX_TEXT_WORDS, MAX_MEMORY}
use Rattle.pmsi_model.specs.Image.{ImageValue, IsImage}
use Rattle.pmsi_model.specs.Instruction.{IsEncodingOf}
use Rattle.pmsi_model.specs.Words.{word_of, bytes_of}
use Rattle.asm_operands.specs.declared.token.TokenKind.TheVariants.{Word, Colon}
use Rattle.asm_parse.specs.declared.fault.AsmCause.{AsmCause}
use Rattle.asm_parse.specs.declared.fault.AsmCause.TheVariants as cause
use Rattle.asm_parse.specs.declared.fault.AsmFault.{AsmFault}
use Rattle.asm_parse.specs.declared.fault.AsmFault.TheVariants.{At}
use Rattle.asm_operands.specs.declared.expr.Literal.{Literal}
use Rattle.asm_parse.specs.declared.place.Place.{Place}
use Rattle.asm_operands.specs.Tokens.{code_of, is_strange}
use Rattle.asm_parse.specs.Lines.{lines_of}
use Rattle.asm_operands.specs.Numbers.{is_between, is_number, value_in}
use Rattle.asm_operands.specs.Operands.{Lexeme, lexemes_of, has_kind, Took, Taken, Stuck, then_take, take_kind, take_next, take_literal, take_exprs, ends, Expr, expr_value}
use Rattle.asm_parse.specs.Mnemonics.{Code, Instruction, Raw, Item, Known, Numbered, Distant, Form, take_forms, forms_named}

-- ---- where a line stands

-- the next address of the space that lines go to
abbrev pub here : Place → ℕ
here place = if place.in_data then place.data_at else place.text_at

-- what the lines before have left: the place, the names of labels and `.equ`, those of `.equ` alone, and the runs of bytes
-- that data has, as addresses with how many bytes begin there
pub record Before : Type 0 where
  pub place : Place
  pub names : List (List ℕ × ℤ)
  pub equs : List (List ℕ × ℤ)
  pub runs : List (ℕ × ℕ)

abbrev pub at_start : Before
at_start = record { place = record { in_data = false; text_at = 0; data_at = 0 }; names = []; equs = []; runs = [] }

-- ---- what a line does

pub data Statement : Type 0 where
  Nothing : Statement
  Switch : Bool → Statement  -- the next lines go to data, or to text
  Emit : List (ℕ × Item) → Statement  -- items, each with its bytes
  Zeros : ℕ → Statement
  MoveTo : ℕ → Statement  -- the next address of data
  Define : Lexeme → ℤ → Statement

-- a statement as it was read: the tokens from the one on that doesn't fit; or the column of a wrong number, if there is one,
-- and what is done
pub data Reading : Type 0 where
  Misfit : List Lexeme → Reading
  Reads : Option ℕ → Statement → Reading

-- ---- numbers that are known at once

-- the first that is there
unfoldable pub first_of : {A : Type 0} → List (Option A) → Option A
first_of [] = None
first_of (None ∷ others) = first_of others
first_of (Some a ∷ others) = Some a

-- a number without a name: misspelt or too wide, or out of its own range
abbrev pub wrong_number : Option (List ℕ) → Option ℤ → ℕ → ℕ → (ℤ → Bool) → Option ℕ
wrong_number (Some name) number column at fits = None
wrong_number None None column at fits = Some column
wrong_number None (Some n) column at fits = if fits n then None else Some at

abbrev pub wrong_item : Item → Option ℕ
wrong_item (Known code) = None
wrong_item (Numbered expr at fits gives) = wrong_number expr.name expr.number expr.column at fits
wrong_item (Distant expr fits gives) = wrong_number expr.name expr.number expr.column expr.column (λ _. true)

abbrev pub first_wrong : List Item → Option ℕ
first_wrong items = first_of (map wrong_item items)

-- ---- reading a statement

-- items of so many bytes each
abbrev pub read_items : ℕ → Took (List Item) → Reading
read_items width (Taken items xs) = Reads (first_wrong items) (Emit (map (λ item. (width, item)) items))
read_items width (Stuck xs) = Misfit xs

-- ---- directives

abbrev pub read_plain : Took Statement → Reading
read_plain (Taken does xs) = Reads None does
read_plain (Stuck xs) = Misfit xs

-- what a number does, where there is one
abbrev pub number_does : (ℤ → Statement) → Option ℤ → Statement
number_does does None = Nothing
number_does does (Some n) = does n

abbrev pub read_literal : (ℤ → Bool) → (ℤ → Statement) → Took Literal → Reading
read_literal fits does (Taken n xs) = Reads (wrong_number None n.value n.column n.column fits) (number_does does n.value)
read_literal fits does (Stuck xs) = Misfit xs

-- one number
abbrev pub read_number : (ℤ → Bool) → (ℤ → Statement) → List Lexeme → Reading
read_number fits does xs = read_literal fits does (then_take (take_literal xs) ends)

abbrev pub number_item : ℕ → (ℤ → Bool) → Expr → Item
number_item width fits expr = Numbered expr expr.column fits (λ n. Raw width (word_of n))

-- numbers of so many bytes each
abbrev pub read_numbers : ℕ → (ℤ → Bool) → List Lexeme → Reading
read_numbers width fits xs = read_items width (then_take (take_exprs xs) (λ exprs rest. Taken (map (number_item width fits) exprs) rest))

abbrev pub is_half : ℤ → Bool
is_half n = is_between (neg_ℤ (pos 32768)) (pos 65535) n

abbrev pub is_byte : ℤ → Bool
is_byte n = is_between (neg_ℤ (pos 128)) (pos 255) n

abbrev pub is_size : ℤ → Bool
is_size n = is_between (pos 0) (pos 4294967295) n

abbrev pub alignments : List ℤ
alignments = pos 1 ∷ pos 2 ∷ pos 4 ∷ pos 8 ∷ pos 16 ∷ pos 32 ∷ pos 64 ∷ []

abbrev pub is_alignment : ℤ → Bool
is_alignment n = list_any (λ a. is_between a a n) alignments

-- the least multiple of a number that isn't below an address
abbrev pub aligned : ℕ → ℕ → ℕ
aligned address to = (address + (to - 1)) / to * to

abbrev pub read_definition : Took (Lexeme × Literal) → Reading
read_definition (Taken d xs) = Reads (wrong_number None d.1.value d.1.column d.1.column is_number) (number_does (Define d.0) d.1.value)
read_definition (Stuck xs) = Misfit xs

abbrev pub take_definition : List Lexeme → Took (Lexeme × Literal)
take_definition xs = then_take (take_kind Word xs) (λ name xs. then_take (take_next take_literal xs) (λ n xs. ends (name, n) xs))

-- a directive: whether it is for data alone, and how its operands are read
pub record Directive : Type 0 where
  pub data_only : Bool
  pub reads : Place → List Lexeme → Reading

abbrev pub everywhere : (List Lexeme → Reading) → Directive
everywhere reads = record { data_only = false; reads = λ place. reads }

abbrev pub for_data : (Place → List Lexeme → Reading) → Directive
for_data reads = record { data_only = true; reads = reads }

unfoldable pub directives : List (List ℕ × Directive)
directives =
    (codes ".text", everywhere (λ xs. read_plain (ends (Switch false) xs)))
    ∷ (codes ".data", everywhere (λ xs. read_plain (ends (Switch true) xs)))
    ∷ (codes ".org", for_data (λ place xs. read_number is_size (λ n. MoveTo (word_of n)) xs))
    ∷ (codes ".balign", for_data (λ place xs. read_number is_alignment (λ n. MoveTo (aligned place.data_at (word_of n))) xs))
    ∷ (codes ".word", everywhere (λ xs. read_numbers 4 is_number xs))
    ∷ (codes ".half", for_data (λ place xs. read_numbers 2 is_half xs))
    ∷ (codes ".byte", for_data (λ place xs. read_numbers 1 is_byte xs))
    ∷ (codes ".zero", for_data (λ place xs. read_number is_size (λ n. Zeros (word_of n)) xs))
    ∷ (codes ".equ", everywhere (λ xs. read_definition (take_definition xs)))
    ∷ (codes ".globl", everywhere (λ xs. read_plain (then_take (take_kind Word xs) (λ _ xs. ends Nothing xs))))
    ∷ (codes ".global", everywhere (λ xs. read_plain (then_take (take_kind Word xs) (λ _ xs. ends Nothing xs))))
    ∷ []

-- the directive of a name, if there is one
unfoldable pub directive_named : List ℕ → Option Directive
directive_named name = value_in directives name

-- ---- a line

abbrev pub is_label : Lexeme → Lexeme → Bool
is_label x y = has_kind Word x && has_kind Colon y

-- the labels that a line begins with, and what stands behind them
unfoldable pub labels_of : List Lexeme → List Lexeme
labels_of [] = []
labels_of (x ∷ []) = []
labels_of (x ∷ y ∷ xs) = if is_label x y then x ∷ labels_of xs else []

unfoldable pub behind_labels : List Lexeme → List Lexeme
behind_labels [] = []
behind_labels (x ∷ []) = x ∷ []
behind_labels (x ∷ y ∷ xs) = if is_label x y then behind_labels xs else x ∷ y ∷ xs

-- what a line's first word asks for
pub data Asked : Type 0 where
  NothingAsked : Asked  -- there is none
  NoWord : ℕ → Asked  -- no mnemonic and no directive stands at this column
  OtherSpace : ℕ → Asked  -- the one at this column may not stand in this space
  Asks : Reading → Asked

abbrev pub asked_directive : Place → Lexeme → List Lexeme → Option Directive → Asked
asked_directive place x xs None = NoWord x.column
asked_directive place x xs (Some d) = if d.data_only && not place.in_data then OtherSpace x.column else Asks (d.reads place xs)

abbrev pub asked_forms : Place → List (List ℕ × ℤ) → Lexeme → List Lexeme → Option (List Form) → Asked
asked_forms place equs x xs None = asked_directive place x xs (directive_named x.text)
asked_forms place equs x xs (Some forms) = if place.in_data then OtherSpace x.column else Asks (read_items 4 (take_forms forms equs xs))

-- what a line asks for in its place, behind its labels, with the names of `.equ` that stand before
unfoldable pub asked : Place → List (List ℕ × ℤ) → List Lexeme → Asked
asked place equs [] = NothingAsked
asked place equs (x ∷ xs) = if has_kind Word x then asked_forms place equs x xs (forms_named x.text) else NoWord x.column

-- ---- the first round

abbrev pub word_fault : Asked → Option AsmCause
word_fault (NoWord column) = Some (cause.Word column)
word_fault asks = None

-- the column of the first token that doesn't fit, or of the line's end
abbrev pub column_of : ℕ → List Lexeme → ℕ
column_of end [] = end
column_of end (x ∷ xs) = x.column

abbrev pub operand_fault : ℕ → Asked → Option AsmCause
operand_fault end NothingAsked = None
operand_fault end (NoWord column) = None
operand_fault end (OtherSpace column) = Some (cause.Operand column)
operand_fault end (Asks (Misfit xs)) = Some (cause.Operand (column_of end xs))
operand_fault end (Asks (Reads wrong does)) = None

abbrev pub number_fault : Asked → Option AsmCause
number_fault (Asks (Reads wrong does)) = option_map (λ column. cause.Number column) wrong
number_fault asks = None

abbrev pub statement_of : Asked → Statement
statement_of (Asks (Reads wrong does)) = does
statement_of asks = Nothing

abbrev pub defined_by : Statement → List Lexeme
defined_by (Define name n) = name ∷ []
defined_by does = []

-- the first name that was defined before, on an earlier line or on this one
unfoldable pub first_twice : List (List ℕ) → List Lexeme → Option AsmCause
first_twice known [] = None
first_twice known (x ∷ xs) = if list_any (bytes_eq x.text) known then Some (cause.Twice x.column) else first_twice (x.text ∷ known) xs

abbrev pub size_of : Statement → ℕ
size_of (Emit items) = sum_by (λ item. item.0) items
size_of (Zeros count) = count
size_of does = 0

abbrev pub text_fault : Place → Statement → Option AsmCause
text_fault place does = if not place.in_data && nat_lt (4 * MAX_TEXT_WORDS) (place.text_at + size_of does) then Some cause.TextLong else None

abbrev pub range_fault : Place → Statement → Option AsmCause
range_fault place (MoveTo address) = if nat_lt MAX_MEMORY address then Some (cause.Range address) else None
range_fault place does = if place.in_data && nat_lt MAX_MEMORY (place.data_at + size_of does) then Some (cause.Range MAX_MEMORY) else None

abbrev pub has_byte : List (ℕ × ℕ) → ℕ → Bool
has_byte runs address = list_any (λ run. nat_le run.0 address && nat_lt address (run.0 + run.1)) runs

abbrev pub overlap_fault : Before → Statement → Option AsmCause
overlap_fault b does =
    if b.place.in_data then option_map (λ address. cause.Overlap address) (find (has_byte b.runs) (range_with_len b.place.data_at (size_of does))) else None

-- ---- a step: what a line is in its place

pub record Step : Type 0 where
  pub number : ℕ  -- the line's, from 1 on
  pub place : Place  -- where it stands, before it does anything
  pub labels : List Lexeme
  pub does : Statement
  pub fault : Option AsmCause  -- of the first round

-- the causes that show when a line is read by itself, in their order
unfoldable pub reading_fault : List ℕ → Asked → Option AsmCause
reading_fault line asks =
    first_of (option_map (λ place. cause.Character (place + 1)) (position is_strange (code_of line))
    ∷ word_fault asks
    ∷ operand_fault (length line + 1) asks
    ∷ number_fault asks
    ∷ [])

-- the causes that show in its place among the lines before, in their order
unfoldable pub placing_fault : Before → List Lexeme → Statement → Option AsmCause
placing_fault b labels does =
    first_of (first_twice (map (λ name. name.0) b.names) (labels ++ defined_by does)
    ∷ text_fault b.place does
    ∷ range_fault b.place does
    ∷ overlap_fault b does
    ∷ [])

unfoldable pub step_of : ℕ → Before → List ℕ → Step
step_of number b line =
    let tokens = lexemes_of (code_of line) in
    let labels = labels_of tokens in
    let asks = asked b.place b.equs (behind_labels tokens) in
    let does = statement_of asks in
    record { number = number; place = b.place; labels = labels; does = does; fault = first_of (reading_fault line asks ∷ placing_fault b labels does ∷ []) }

-- ---- what a step leaves for the next ones

abbrev pub moved : Statement → Place → Place
moved (Switch in_data) place = record place { in_data = in_data }
moved (MoveTo address) place = record place { data_at = address }
moved does place = if place.in_data then record place { data_at = place.data_at + size_of does } else record place { text_at = place.text_at + size_of does }

abbrev pub equs_of : Statement → List (List ℕ × ℤ)
equs_of (Define name n) = (name.text, n) ∷ []
equs_of does = []

-- the names that a step defines, with their values
abbrev pub names_by : Step → List (List ℕ × ℤ)
names_by step = map (λ x. (x.text, pos (here step.place))) step.labels ++ equs_of step.does

abbrev pub run_by : Step → List (ℕ × ℕ)
run_by step = if step.place.in_data && nat_lt 0 (size_of step.does) then (step.place.data_at, size_of step.does) ∷ [] else []

unfoldable pub after_step : Before → Step → Before
after_step b step = record {
  place = moved step.does step.place;
  names = b.names ++ names_by step;
  equs = b.equs ++ equs_of step.does;
  runs = run_by step ++ b.runs;
}

unfoldable pub steps_from : ℕ → Before → List (List ℕ) → List Step
steps_from number b [] = []
steps_from number b (line ∷ lines) = let step = step_of number b line in step ∷ steps_from (number + 1) (after_step b step) lines

-- the lines of a source, each in its place
unfoldable pub steps_of : List ℕ → List Step
steps_of source = steps_from 1 at_start (lines_of source)

-- all names
unfoldable pub names_of : List Step → List (List ℕ × ℤ)
names_of steps = flat_map names_by steps

-- ---- the second round

-- a name that is defined nowhere
abbrev pub unknown_name : List (List ℕ × ℤ) → Option (List ℕ) → ℕ → Option AsmCause
unknown_name names None column = None
unknown_name names (Some name) column = if is_none (value_in names name) then Some (cause.Unknown column) else None

abbrev pub unknown_in : List (List ℕ × ℤ) → Expr → Option AsmCause
unknown_in names expr = unknown_name names expr.name expr.column

abbrev pub unknown_item : List (List ℕ × ℤ) → Item → Option AsmCause
unknown_item names (Known code) = None
unknown_item names (Numbered expr at fits gives) = unknown_in names expr
unknown_item names (Distant expr fits gives) = unknown_in names expr

abbrev pub value_fault : Option ℤ → ℕ → (ℤ → Bool) → Option AsmCause
value_fault None column fits = Some (cause.Number column)
value_fault (Some n) column fits = if fits n then None else Some (cause.Number column)

abbrev pub named_number_fault : List (List ℕ × ℤ) → Item → Option AsmCause
named_number_fault names (Known code) = None
named_number_fault names (Numbered expr at fits gives) = value_fault (expr_value names expr) at fits
named_number_fault names (Distant expr fits gives) = value_fault (expr_value names expr) expr.column (λ _. true)

abbrev pub distance_fault : ℤ → (ℤ → Bool) → Option ℤ → Option AsmCause
distance_fault own fits None = None
distance_fault own fits (Some n) = if fits (n -ℤ own) then None else Some (cause.Reach (n -ℤ own))

abbrev pub reach_fault : List (List ℕ × ℤ) → ℤ → Item → Option AsmCause
reach_fault names own (Known code) = None
reach_fault names own (Numbered expr at fits gives) = None
reach_fault names own (Distant expr fits gives) = distance_fault own fits (expr_value names expr)

-- the items of a step, each with its address
unfoldable pub placed_from : ℕ → List (ℕ × Item) → List (ℕ × Item)
placed_from address [] = []
placed_from address (item ∷ items) = (address, item.1) ∷ placed_from (address + item.0) items

abbrev pub items_of : Statement → List (ℕ × Item)
items_of (Emit items) = items
items_of does = []

unfoldable pub placed : Step → List (ℕ × Item)
placed step = placed_from (here step.place) (items_of step.does)

-- the causes of the second round, in their order
unfoldable pub later_fault : List (List ℕ × ℤ) → Step → Option AsmCause
later_fault names step =
    first_of (map (λ item. unknown_item names item.1) (placed step)
    ++ map (λ item. named_number_fault names item.1) (placed step)
    ++ map (λ item. reach_fault names (pos item.0) item.1) (placed step))

-- ---- faults and images

abbrev pub at_line : ℕ → Option AsmCause → Option AsmFault
at_line number found = option_map (λ c. At number c) found

-- the first step with a fault
abbrev pub first_fault : (Step → Option AsmCause) → List Step → Option AsmFault
first_fault fault steps = first_of (map (λ step. at_line step.number (fault step)) steps)

-- the first round's fault, or else the second's
unfoldable pub asm_fault : List ℕ → Option AsmFault
asm_fault source = let steps = steps_of source in first_of (first_fault (λ step. step.fault) steps ∷ first_fault (later_fault (names_of steps)) steps ∷ [])

abbrev pub HasAsmFault : List ℕ → AsmFault → Type 0
HasAsmFault source fault = asm_fault source ≡ Some fault

abbrev pub value_or_zero : Option ℤ → ℤ
value_or_zero None = pos 0
value_or_zero (Some n) = n

-- what an item comes to at its address
abbrev pub code_at : List (List ℕ × ℤ) → ℕ → Item → Code
code_at names address (Known code) = code
code_at names address (Numbered expr at fits gives) = gives (value_or_zero (expr_value names expr))
code_at names address (Distant expr fits gives) = gives (value_or_zero (expr_value names expr) -ℤ pos address)

abbrev pub codes_of : List (List ℕ × ℤ) → Step → List Code
codes_of names step = map (λ item. code_at names item.0 item.1) (placed step)

-- what the lines of text come to, in order
unfoldable pub text_of : List ℕ → List Code
text_of source = let steps = steps_of source in flat_map (codes_of (names_of steps)) (filter (λ step. not step.place.in_data) steps)

abbrev pub code_bytes : Code → List ℕ
code_bytes (Instruction instr) = []
code_bytes (Raw width n) = bytes_of width n

abbrev pub zeros_of : Statement → List ℕ
zeros_of (Zeros count) = replicate count 0
zeros_of does = []

-- the bytes of a line of data
abbrev pub bytes_by : List (List ℕ × ℤ) → Step → List ℕ
bytes_by names step = zeros_of step.does ++ flat_map code_bytes (codes_of names step)

-- the bytes that the lines of data name, line by line with their addresses
unfoldable pub data_of : List ℕ → List (ℕ × List ℕ)
data_of source =
    let steps = steps_of source in map (λ step. (step.place.data_at, bytes_by (names_of steps) step)) (filter (λ step. step.place.in_data) steps)

abbrev pub byte_in : ℕ → ℕ × List ℕ → Option ℕ
byte_in address run = if nat_le run.0 address then slice_get run.1 (address - run.0) else None

-- the byte at an address, of runs that don't overlap
unfoldable pub byte_at : List (ℕ × List ℕ) → ℕ → Option ℕ
byte_at runs address = first_of (map (byte_in address) runs)

-- a word of text is that of its instruction, by the instruction table, or the number itself
abbrev pub IsWordOf : Code → ℕ → Type 0
IsWordOf (Instruction instr) word = IsEncodingOf word instr
IsWordOf (Raw width n) word = word ≡ n

-- the image of a source: it has no fault, the words of text are those of its lines, and memory has the bytes that are named
-- and no others
pub record IsAssembled (source : List ℕ) (image : ImageValue) : Type 0 where
  pub faultless : asm_fault source ≡ None
  pub within : IsImage image
  pub text : AllZip IsWordOf (text_of source) image.text
  pub memory : (address : ℕ) → byte_at (map (λ piece. (piece.address, piece.bytes)) image.pieces) address ≡ byte_at (data_of source) address
