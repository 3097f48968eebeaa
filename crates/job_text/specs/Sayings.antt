-- What a line says by itself.
use Rattle.std.specs.Prelude.{ℕ, ◌^◌, Bool, false, ◌&&◌, ◌==◌, nat_lt, nat_le, if◌then◌else◌, List, [], ◌∷◌, length, codes, Option, Some, None, Result, Ok, Err}
use Rattle.std.specs.Char.{is_digit}
use Rattle.std.specs.List.{find, list_all}
use Rattle.std.specs.Option.{option_map}
use Rattle.std.specs.Str.{bytes_eq}
use Rattle.std.specs.Str.Parse.{digits_value}
use Rattle.job_text.specs.declared.job_fault.HeadWord.{HeadWord}
use Rattle.job_text.specs.declared.job_fault.HeadWord.TheVariants as head
use Rattle.job_text.specs.declared.job_fault.LineCause.{LineCause}
use Rattle.job_text.specs.declared.job_fault.LineCause.TheVariants as cause
use Rattle.job_text.specs.declared.plan.Program.{Program}
use Rattle.job_text.specs.declared.plan.Program.TheVariants as program
use Rattle.job_text.specs.declared.saying.Saying.{Saying}
use Rattle.job_text.specs.declared.saying.Saying.TheVariants.{Sets, Runs}

-- ---- numbers and words

-- the number that digits of a base spell
unfoldable pub digits_in : ℕ → List ℕ → Option ℕ
digits_in base field = if list_all (λ byte. is_digit byte base) field then Some (digits_value base field) else None

-- a number is one to ten decimal digits
unfoldable pub number_in : List ℕ → Option ℕ
number_in field = if nat_lt 0 (length field) && nat_le (length field) 10 then digits_in 10 field else None

-- a word is eight hexadecimal digits of either case
unfoldable pub word_in : List ℕ → Option ℕ
word_in field = if length field == 8 then digits_in 16 field else None

-- the number of a core is one of 32 bits
abbrev pub if_core : Option ℕ → Option ℕ
if_core None = None
if_core (Some core) = if nat_lt core (2 ^ 32) then Some core else None

abbrev pub core_in : List ℕ → Option ℕ
core_in field = if_core (number_in field)

abbrev pub cons_if : {A : Type 0} → Option A → Option (List A) → Option (List A)
cons_if None others = None
cons_if (Some first) None = None
cons_if (Some first) (Some others) = Some (first ∷ others)

-- fields that are words, each of them
unfoldable pub words_in : List (List ℕ) → Option (List ℕ)
words_in [] = Some []
words_in (field ∷ fields) = cons_if (word_in field) (words_in fields)

-- ---- lines

-- what is said, unless a field is no number or no word
abbrev pub said_if : Option Saying → Result Saying LineCause
said_if None = Err cause.Number
said_if (Some saying) = Ok saying

abbrev pub runs_if : Option ℕ → Option Program → Option Saying
runs_if None program = None
runs_if (Some core) None = None
runs_if (Some core) (Some program) = Some (Runs core program)

-- the one field of a list
abbrev pub only_field : List (List ℕ) → Option (List ℕ)
only_field [] = None
only_field (field ∷ []) = Some field
only_field (field ∷ next ∷ more) = None

-- a head has one number behind its word
abbrev pub read_number : HeadWord → Option (List ℕ) → Result Saying LineCause
read_number word None = Err cause.Count
read_number word (Some field) = said_if (option_map (Sets word) (number_in field))

-- a file has one name behind its kind
abbrev pub read_name : (List ℕ → Program) → List ℕ → Option (List ℕ) → Result Saying LineCause
read_name made core None = Err cause.Count
read_name made core (Some name) = said_if (runs_if (core_in core) (Some (made name)))

-- by the kind of the program: any number of words, or a name
unfoldable pub read_kind : List ℕ → List ℕ → List (List ℕ) → Result Saying LineCause
read_kind core kind fields =
    if bytes_eq kind (codes "hex") then said_if (runs_if (core_in core) (option_map program.Words (words_in fields)))
    else (if bytes_eq kind (codes "asm") then read_name program.Asm core (only_field fields)
    else (if bytes_eq kind (codes "image") then read_name program.Image core (only_field fields)
    else Err cause.Word))

-- a core's line has its number and a kind at least
abbrev pub read_core : List (List ℕ) → Result Saying LineCause
read_core [] = Err cause.Count
read_core (core ∷ []) = Err cause.Count
read_core (core ∷ kind ∷ fields) = read_kind core kind fields

-- the heads of a shape, in their order
abbrev pub heads : List (List ℕ × HeadWord)
heads =
    (codes "cores", head.Cores) ∷ (codes "quantum", head.Quantum) ∷ (codes "line", head.Line) ∷ (codes "sets", head.Sets)
    ∷ (codes "ways", head.Ways) ∷ (codes "memory", head.Memory) ∷ (codes "slots", head.Slots)
    ∷ []

unfoldable pub head_named : List ℕ → Option HeadWord
head_named name = option_map (λ row. row.1) (find (λ row. bytes_eq row.0 name) heads)

abbrev pub read_named : Option HeadWord → List (List ℕ) → Result Saying LineCause
read_named None fields = Err cause.Word
read_named (Some word) fields = read_number word (only_field fields)

-- a line behind the first: a core's, or a head
unfoldable pub read_line : List (List ℕ) → Result Saying LineCause
read_line [] = Err cause.Word
read_line (first ∷ fields) = if bytes_eq first (codes "core") then read_core fields else read_named (head_named first) fields

-- the first line is `pmsi 1`
abbrev pub is_field : List ℕ → Option (List ℕ) → Bool
is_field text None = false
is_field text (Some field) = bytes_eq field text

unfoldable pub is_version : List (List ℕ) → Bool
is_version [] = false
is_version (first ∷ fields) = bytes_eq first (codes "pmsi") && is_field (codes "1") (only_field fields)

-- any line
abbrev pub reading_of : List (List ℕ) → Result Saying LineCause
reading_of fields = if is_version fields then Ok (Sets head.Version 1) else read_line fields
