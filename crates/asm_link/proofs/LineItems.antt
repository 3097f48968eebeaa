-- The items of every line can be encoded, once its numbers fit.
use Rattle.std.proofs.Common.{◌≡◌, ℕ, ◌<◌, ◌^◌, Bool, true, false, List, [], ◌∷◌, map, Option, Some, None, refl, arith}
use Rattle.std.specs.Prelude.{ℤ, pos, negsuc, not, ◌&&◌, if◌then◌else◌, IfSome}
use Rattle.std.specs.List.{AllByRecursion}
use Rattle.pmsi_model.specs.Words.{word_of}
use Rattle.asm_operands.specs.declared.expr.Literal.{Literal}
use Rattle.asm_operands.specs.declared.token.TokenKind.TheVariants.{Word}
use Rattle.asm_operands.specs.Numbers.{is_number}
use Rattle.asm_operands.specs.Operands.{Expr, Lexeme, Took, Taken, Stuck, ends, has_kind, take_exprs, take_kind, take_literal, then_take}
use Rattle.asm_parse.specs.declared.place.Place.{Place}
use Rattle.asm_parse.specs.Mnemonics.{Form, Item, Raw, forms_named, take_forms}
use Rattle.asm_parse.specs.Assembly.{Asked, NothingAsked, NoWord, OtherSpace, Asks, Before, Define, Directive, MoveTo, Nothing, Reading, Misfit, Reads, Statement, Switch, Zeros, aligned, asked, asked_directive, asked_forms, directive_named, directives, is_alignment, is_byte, is_half, is_size, items_of, number_does, number_item, read_definition, read_items, read_literal, read_number, read_numbers, read_plain, statement_of, step_of, take_definition}
use Rattle.asm_link.proofs.FormItems.{AreCodable, IsCodable, IsCoded, TookAs, Anything, anything, ends_as, forms_as, then_as}
use Rattle.asm_link.proofs.FormTables.{AreForms, and_rows, named_forms, value_as}
use Rattle.asm_link.proofs.Overwriting.{bytes_long}

-- an item of a line, of a word in text
abbrev pub IsItem : Bool → ℕ × Item → Type 0
IsItem in_data item = IsCodable item.0 item.1 × (in_data ≡ false → item.0 ≡ 4)

abbrev pub AreItems : Bool → Statement → Type 0
AreItems in_data does = AllByRecursion (IsItem in_data) (items_of does)

-- ---- what is read

abbrev IsReading : Bool → Reading → Type 0
IsReading in_data (Misfit xs) = Unit {0}
IsReading in_data (Reads wrong does) = AreItems in_data does

wide_items : (in_data : Bool) (width : ℕ) (items : List Item) → (in_data ≡ false → width ≡ 4) → AreCodable width items
    → AllByRecursion (IsItem in_data) (map (λ item. (width, item)) items)
wide_items in_data width [] four are = tt
wide_items in_data width (item ∷ items) four are = ((are.0, four), wide_items in_data width items four are.1)

items_read : (in_data : Bool) (width : ℕ) (took : Took (List Item)) → (in_data ≡ false → width ≡ 4) → TookAs (AreCodable width) took
    → IsReading in_data (read_items width took)
items_read in_data width (Taken items xs) four are = wide_items in_data width items four are
items_read in_data width (Stuck xs) four are = tt

word_small : (n : ℤ) → is_number n ≡ true → word_of n < 2 ^ 32
word_small (pos n) fits = grind (arith, fits)
word_small (negsuc n) fits = grind (arith, fits)

-- numbers of so many bytes are in the range of all numbers
abbrev AreNumbers : (ℤ → Bool) → Type 0
AreNumbers fits = (n : ℤ) → fits n ≡ true → is_number n ≡ true

half_number : AreNumbers is_half
half_number (pos n) fits = grind (arith, fits)
half_number (negsuc n) fits = grind (arith, fits)

byte_number : AreNumbers is_byte
byte_number (pos n) fits = grind (arith, fits)
byte_number (negsuc n) fits = grind (arith, fits)

number_coded : (width : ℕ) (n : ℤ) → is_number n ≡ true → IsCoded width (Raw width (word_of n))
number_coded width n fits = record { word = word_of n; small = word_small n fits; is = refl; short = omega (arith, bytes_long width (word_of n)) }

number_items : (width : ℕ) (fits : ℤ → Bool) (exprs : List Expr) → AreNumbers fits → AreCodable width (map (number_item width fits) exprs)
number_items width fits [] are = tt
number_items width fits (e ∷ exprs) are = (λ n is. number_coded width n (are n is), number_items width fits exprs are)

numbers_took : (width : ℕ) (fits : ℤ → Bool) (took : Took (List Expr)) → AreNumbers fits
    → TookAs (AreCodable width) (then_take took (λ exprs rest. Taken (map (number_item width fits) exprs) rest))
numbers_took width fits (Taken exprs xs) are = number_items width fits exprs are
numbers_took width fits (Stuck xs) are = tt

numbers_read : (in_data : Bool) (width : ℕ) (fits : ℤ → Bool) (xs : List Lexeme) → AreNumbers fits → (in_data ≡ false → width ≡ 4)
    → IsReading in_data (read_numbers width fits xs)
numbers_read in_data width fits xs are four = items_read in_data width _ four (numbers_took width fits (take_exprs xs) are)

plain_read : (in_data : Bool) (took : Took Statement) → TookAs (AreItems in_data) took → IsReading in_data (read_plain took)
plain_read in_data (Taken does xs) are = are
plain_read in_data (Stuck xs) are = tt

does_as : (in_data : Bool) (does : ℤ → Statement) (found : Option ℤ) → ((n : ℤ) → AreItems in_data (does n)) → AreItems in_data (number_does does found)
does_as in_data does None each = tt
does_as in_data does (Some n) each = each n

literal_read : (in_data : Bool) (fits : ℤ → Bool) (does : ℤ → Statement) (took : Took Literal) → ((n : ℤ) → AreItems in_data (does n))
    → IsReading in_data (read_literal fits does took)
literal_read in_data fits does (Taken n xs) each = does_as in_data does n.value each
literal_read in_data fits does (Stuck xs) each = tt

number_read : (in_data : Bool) (fits : ℤ → Bool) (does : ℤ → Statement) (xs : List Lexeme) → ((n : ℤ) → AreItems in_data (does n))
    → IsReading in_data (read_number fits does xs)
number_read in_data fits does xs each = literal_read in_data fits does (then_take (take_literal xs) ends) each

definition_read : (in_data : Bool) (took : Took (Lexeme × Literal)) → IsReading in_data (read_definition took)
definition_read in_data (Taken d xs) = does_as in_data (Define d.0) d.1.value (λ n. tt)
definition_read in_data (Stuck xs) = tt

-- ---- directives

abbrev IsDirective : Directive → Type 0
IsDirective d = (place : Place) (xs : List Lexeme) → (d.data_only && not place.in_data) ≡ false → IsReading place.in_data (d.reads place xs)

-- a directive that is for data alone stands in no text
never_text : (in_data : Bool) (width : ℕ) → not in_data ≡ false → in_data ≡ false → width ≡ 4
never_text true width here text = absurd (cc)
never_text false width here text = absurd (cc)

name_as : (in_data : Bool) (xs : List Lexeme) → IsReading in_data (read_plain (then_take (take_kind Word xs) (λ _ xs. ends Nothing xs)))
name_as in_data xs =
    plain_read in_data _ (then_as Anything (AreItems in_data) (take_kind Word xs) (λ _ xs. ends Nothing xs) (anything (take_kind Word xs))
    (λ _ xs _. ends_as (AreItems in_data) Nothing xs tt))

directives_are : AllByRecursion (λ row. IsDirective row.1) directives
unfolding directives
directives_are =
    and_rows (λ place xs _. plain_read place.in_data _ (ends_as (AreItems place.in_data) (Switch false) xs tt))
    (and_rows (λ place xs _. plain_read place.in_data _ (ends_as (AreItems place.in_data) (Switch true) xs tt))
    (and_rows (λ place xs _. number_read place.in_data is_size (λ n. MoveTo (word_of n)) xs (λ n. tt))
    (and_rows (λ place xs _. number_read place.in_data is_alignment (λ n. MoveTo (aligned place.data_at (word_of n))) xs (λ n. tt))
    (and_rows (λ place xs _. numbers_read place.in_data 4 is_number xs (λ n fits. fits) (λ _. refl))
    (and_rows (λ place xs here. numbers_read place.in_data 2 is_half xs half_number (never_text place.in_data 2 here))
    (and_rows (λ place xs here. numbers_read place.in_data 1 is_byte xs byte_number (never_text place.in_data 1 here))
    (and_rows (λ place xs _. number_read place.in_data is_size (λ n. Zeros (word_of n)) xs (λ n. tt))
    (and_rows (λ place xs _. definition_read place.in_data (take_definition xs))
    (and_rows (λ place xs _. name_as place.in_data xs)
    (and_rows (λ place xs _. name_as place.in_data xs) tt))))))))))

named_directive : (name : List ℕ) → IfSome (directive_named name) IsDirective
unfolding directive_named
named_directive name = value_as IsDirective directives name directives_are

-- ---- lines

abbrev IsAsked : Bool → Asked → Type 0
IsAsked in_data NothingAsked = Unit {0}
IsAsked in_data (NoWord column) = Unit {0}
IsAsked in_data (OtherSpace column) = Unit {0}
IsAsked in_data (Asks reading) = IsReading in_data reading

space_if : (in_data test : Bool) (column : ℕ) (reading : Reading) → (test ≡ false → IsReading in_data reading)
    → IsAsked in_data (if test then OtherSpace column else Asks reading)
space_if in_data true column reading is = tt
space_if in_data false column reading is = is refl

directive_asked : (place : Place) (x : Lexeme) (xs : List Lexeme) (found : Option Directive) → IfSome found IsDirective
    → IsAsked place.in_data (asked_directive place x xs found)
directive_asked place x xs None is = tt
directive_asked place x xs (Some d) is = space_if place.in_data (d.data_only && not place.in_data) x.column (d.reads place xs) (is place xs)

forms_asked : (place : Place) (equs : List (List ℕ × ℤ)) (x : Lexeme) (xs : List Lexeme) (found : Option (List Form)) → IfSome found AreForms
    → IsAsked place.in_data (asked_forms place equs x xs found)
forms_asked place equs x xs None are = directive_asked place x xs (directive_named x.text) (named_directive x.text)
forms_asked place equs x xs (Some forms) are =
    space_if place.in_data place.in_data x.column (read_items 4 (take_forms forms equs xs))
    (λ _. items_read place.in_data 4 (take_forms forms equs xs) (λ _. refl) (forms_as forms are equs xs))

word_if : (in_data test : Bool) (asks : Asked) (column : ℕ) → IsAsked in_data asks → IsAsked in_data (if test then asks else NoWord column)
word_if in_data true asks column is = is
word_if in_data false asks column is = tt

asked_as : (place : Place) (equs : List (List ℕ × ℤ)) (xs : List Lexeme) → IsAsked place.in_data (asked place equs xs)
unfolding asked
asked_as place equs [] = tt
asked_as place equs (x ∷ xs) =
    word_if place.in_data (has_kind Word x) (asked_forms place equs x xs (forms_named x.text)) x.column
    (forms_asked place equs x xs (forms_named x.text) (named_forms x.text))

statement_as : (in_data : Bool) (asks : Asked) → IsAsked in_data asks → AreItems in_data (statement_of asks)
statement_as in_data NothingAsked is = tt
statement_as in_data (NoWord column) is = tt
statement_as in_data (OtherSpace column) is = tt
statement_as in_data (Asks (Misfit xs)) is = tt
statement_as in_data (Asks (Reads wrong does)) is = is

-- the items of a line in its place
pub line_items : (number : ℕ) (b : Before) (line : List ℕ) → AreItems (step_of number b line).place.in_data (step_of number b line).does
unfolding step_of
line_items number b line = statement_as b.place.in_data _ (asked_as b.place b.equs _)
