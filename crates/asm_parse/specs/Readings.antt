-- What the code's directives stand for, and how a line that was read by itself ends.
use Rattle.std.specs.Prelude.{◌≡◌, ℕ, ℤ, pos, Bool, List, [], ◌∷◌, Option, Some, None, Result, MatchResult}
use Rattle.std.specs.Option.{unwrap_or}
use Rattle.asm_parse.specs.declared.directive.Directive as code_directive
use Rattle.asm_parse.specs.declared.directive.Directive.TheVariants as directive
use Rattle.asm_parse.specs.declared.fault.AsmCause.TheVariants as cause
use Rattle.asm_parse.specs.declared.misread.Misread as code_misread
use Rattle.asm_parse.specs.declared.misread.Misread.TheVariants as misread
use Rattle.asm_parse.specs.declared.item.Width.{Width}
use Rattle.asm_parse.specs.declared.item.Width.TheVariants.{Byte, Half, Word}
use Rattle.asm_operands.specs.declared.token.TokenKind.TheVariants as kind
use Rattle.asm_parse.specs.declared.statement.Statement as code_statement
use Rattle.asm_operands.specs.Operands.{Lexeme, Took, take_kind, then_take, ends}
use Rattle.pmsi_model.specs.Words.{word_of}
use Rattle.asm_parse.specs.Assembly.{Asked, NothingAsked, NoWord, OtherSpace, Asks, Misfit, Reads, word_fault, operand_fault, number_fault, Directive, Statement, Nothing, Switch, Zeros, MoveTo, everywhere, for_data, read_plain, read_number, read_numbers, read_definition, take_definition, is_size, is_alignment, aligned}
use Rattle.asm_parse.specs.Items.{fits_in}
use Rattle.asm_parse.specs.Items as items

abbrev pub numbers_meaning : Width → Directive
numbers_meaning Byte = for_data (λ place xs. read_numbers 1 (fits_in Byte) xs)
numbers_meaning Half = for_data (λ place xs. read_numbers 2 (fits_in Half) xs)
numbers_meaning Word = everywhere (λ xs. read_numbers 4 (fits_in Word) xs)

abbrev pub directive_meaning : code_directive.Directive → Directive
directive_meaning (directive.Switch to_data) = everywhere (λ xs. read_plain (ends (Switch to_data) xs))
directive_meaning directive.Origin = for_data (λ place xs. read_number is_size (λ n. MoveTo (word_of n)) xs)
directive_meaning directive.Align = for_data (λ place xs. read_number is_alignment (λ n. MoveTo (aligned place.data_at (word_of n))) xs)
directive_meaning (directive.Numbers width) = numbers_meaning width
directive_meaning directive.Zeros = for_data (λ place xs. read_number is_size (λ n. Zeros (word_of n)) xs)
directive_meaning directive.Define = everywhere (λ xs. read_definition (take_definition xs))
directive_meaning directive.Global = everywhere (λ xs. read_plain (then_take (take_kind kind.Word xs) (λ _ xs. ends Nothing xs)))

-- what is done, unless something is wrong
abbrev pub done_by : Asked → Option Statement
done_by NothingAsked = Some Nothing
done_by (NoWord column) = None
done_by (OtherSpace column) = None
done_by (Asks (Misfit xs)) = None
done_by (Asks (Reads (Some column) does)) = None
done_by (Asks (Reads None does)) = Some does

-- this is wrong, unless memory ran out
abbrev pub IsMisread : code_misread.Misread → Asked → Type 0
IsMisread (misread.Word column) asks = word_fault asks ≡ Some (cause.Word column)
IsMisread (misread.Operand column) asks = (end : ℕ) → operand_fault end asks ≡ Some (cause.Operand (unwrap_or column end))
IsMisread (misread.Number column) asks = number_fault asks ≡ Some (cause.Number column)
IsMisread misread.NoMemory asks = Unit {0}

-- what a line asks for was read
abbrev pub IsRead : Result code_statement.Statement code_misread.Misread → Asked → Type 0
IsRead read asks = MatchResult read (λ does. done_by asks ≡ Some (items.statement_of does)) (λ e. IsMisread e asks)

-- a statement is read that only misfits can keep from being done
abbrev pub IsPlainRead : Result (Unit {0}) code_misread.Misread → Statement → Took Statement → Type 0
IsPlainRead read does took = MatchResult read (λ _. read_plain took ≡ Reads None does) (λ e. IsMisread e (Asks (read_plain took)))

-- the line's one number is read, whatever it is for
abbrev pub IsNumberRead : Result ℕ code_misread.Misread → (ℤ → Bool) → List Lexeme → Type 0
IsNumberRead read fits xs =
    (does : ℤ → Statement) → MatchResult read (λ n. read_number fits does xs ≡ Reads None (does (pos n))) (λ e. IsMisread e (Asks (read_number fits does xs)))

abbrev pub first_column : List Lexeme → Option ℕ
first_column [] = None
first_column (x ∷ xs) = Some x.column
