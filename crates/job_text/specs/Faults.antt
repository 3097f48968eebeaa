-- What is wrong with a job text: the first fault of an order of steps. The first step looks at the bytes, the second at each
-- line from the top, and the others at what all lines say, in whichever order they say it.
use Rattle.std.specs.Prelude.{ℕ, ◌*◌, ◌%◌, min, Bool, true, false, ◌&&◌, ◌==◌, nat_lt, nat_le, if◌then◌else◌, List, [], ◌∷◌, ◌++◌, map, length, codes, Option, Some, None, is_some, is_none, Result, Ok, Err}
use Rattle.std.specs.Int.{is_power_of_two}
use Rattle.std.specs.List.{filter, filter_map, find, range_with_len}
use Rattle.std.specs.Option.{option_map, unwrap_or}
use Rattle.std.specs.Result.{result_ok}
use Rattle.std.specs.Str.{bytes_eq, is_utf8}
use Rattle.pmsi_model.specs.declared.limits.TheConstants.{MAX_CORES, MAX_QUANTUM, MIN_LINE_WORDS, MAX_LINE_WORDS, MAX_SETS, MAX_WAYS, MIN_MEMORY, MAX_MEMORY, MAX_SLOTS, MAX_TEXT_WORDS}
use Rattle.job_text.specs.declared.job_fault.HeadWord.{HeadWord}
use Rattle.job_text.specs.declared.job_fault.HeadWord.TheVariants as head
use Rattle.job_text.specs.declared.job_fault.LineCause.{LineCause}
use Rattle.job_text.specs.declared.job_fault.LineCause.TheVariants as cause
use Rattle.job_text.specs.declared.job_fault.JobFault.{JobFault}
use Rattle.job_text.specs.declared.job_fault.JobFault.TheVariants.{NotText, Line, Twice, Missing, Limit}
use Rattle.job_text.specs.declared.plan.Program.{Program}
use Rattle.job_text.specs.declared.plan.Program.TheVariants.{Words, Asm, Image}
use Rattle.job_text.specs.Cutting.{Row, rows_of}
use Rattle.job_text.specs.declared.saying.Saying.{Saying}
use Rattle.job_text.specs.declared.saying.Saying.TheVariants.{Sets, Runs}
use Rattle.job_text.specs.Sayings.{is_version, read_line, reading_of}

-- the first that is there
unfoldable pub first_of : {A : Type 0} → List (Option A) → Option A
first_of [] = None
first_of (None ∷ others) = first_of others
first_of (Some a ∷ others) = Some a

-- ---- what lines say

-- the place of a head in the order; cores come last
abbrev pub place_of : HeadWord → ℕ
place_of head.Version = 0
place_of head.Cores = 1
place_of head.Quantum = 2
place_of head.Line = 3
place_of head.Sets = 4
place_of head.Ways = 5
place_of head.Memory = 6
place_of head.Slots = 7
place_of (head.Core core) = 8

-- the heads in their order
abbrev pub shape_heads : List HeadWord
shape_heads = head.Cores ∷ head.Quantum ∷ head.Line ∷ head.Sets ∷ head.Ways ∷ head.Memory ∷ head.Slots ∷ []

abbrev pub all_heads : List HeadWord
all_heads = head.Version ∷ shape_heads

-- what the lines say, each by itself
unfoldable pub sayings_of : List Row → List Saying
sayings_of rows = filter_map (λ row. result_ok (reading_of row.fields)) rows

-- the number of the head at a place of the order, where one is said
unfoldable pub number_at : ℕ → List Saying → Option ℕ
number_at place [] = None
number_at place (Sets word number ∷ said) = if place_of word == place then Some number else number_at place said
number_at place (Runs core program ∷ said) = number_at place said

abbrev pub number_of : HeadWord → List Saying → Option ℕ
number_of word said = number_at (place_of word) said

-- the program of a core, where one is said
unfoldable pub program_of : ℕ → List Saying → Option Program
program_of core [] = None
program_of core (Sets word number ∷ said) = program_of core said
program_of core (Runs other program ∷ said) = if other == core then Some program else program_of core said

-- the cores that programs are said for
unfoldable pub cores_in : List Saying → List ℕ
cores_in [] = []
cores_in (Sets word number ∷ said) = cores_in said
cores_in (Runs core program ∷ said) = core ∷ cores_in said

-- what a line is about, and whether something was said about it
abbrev pub head_of : Saying → HeadWord
head_of (Sets word number) = word
head_of (Runs core program) = head.Core core

abbrev pub was_said : Saying → List Saying → Bool
was_said (Sets word number) said = is_some (number_of word said)
was_said (Runs core program) said = is_some (program_of core said)

-- ---- the first line that is wrong, behind the lines before it

abbrev pub first_is : List ℕ → List (List ℕ) → Bool
first_is name [] = false
first_is name (first ∷ fields) = bytes_eq first name

abbrev pub reading_fault : List Saying → ℕ → Result Saying LineCause → Option JobFault
reading_fault said number (Err why) = Some (Line number why)
reading_fault said number (Ok saying) = if was_said saying said then Some (Twice (head_of saying)) else None

-- the version stands on the first line, and on no later one
unfoldable pub row_fault : List Row → Row → Option JobFault
row_fault [] row = if is_version row.fields then None else Some (Line row.number cause.Version)
row_fault (first ∷ before) row =
    if first_is (codes "pmsi") row.fields then Some (Twice head.Version)
    else reading_fault (sayings_of (first ∷ before)) row.number (read_line row.fields)

-- each line is looked at with the lines before it
unfoldable pub rows_fault : List Row → List Row → Option JobFault
rows_fault before [] = None
rows_fault before (row ∷ rows) = first_of (row_fault before row ∷ rows_fault (before ++ row ∷ []) rows ∷ [])

-- ---- what all lines say together

-- the first head that no line gives
unfoldable pub missing_head : List Saying → Option JobFault
missing_head said = option_map Missing (find (λ word. is_none (number_of word said)) all_heads)

abbrev pub is_between : ℕ → ℕ → ℕ → Bool
is_between least greatest n = nat_le least n && nat_le n greatest

-- whether the number of a head is within its limits; the memory is whole lines of so many words, which are some
unfoldable pub is_within : ℕ → HeadWord → ℕ → Bool
is_within line_words head.Version n = true
is_within line_words head.Cores n = is_between 1 MAX_CORES n
is_within line_words head.Quantum n = is_between 1 MAX_QUANTUM n
is_within line_words head.Line n = is_between MIN_LINE_WORDS MAX_LINE_WORDS n && is_power_of_two n
is_within line_words head.Sets n = is_between 1 MAX_SETS n && is_power_of_two n
is_within line_words head.Ways n = is_between 1 MAX_WAYS n
is_within line_words head.Memory n = is_between MIN_MEMORY MAX_MEMORY n && nat_lt 0 line_words && n % (4 * line_words) == 0
is_within line_words head.Slots n = nat_le n MAX_SLOTS
is_within line_words (head.Core core) n = true

-- the number of a head, which is 0 where no line gives it
abbrev pub value_of : HeadWord → List Saying → ℕ
value_of word said = unwrap_or (number_of word said) 0

abbrev pub head_limit : List Saying → HeadWord → Option JobFault
head_limit said word =
    if is_within (value_of head.Line said) word (value_of word said) then None else Some (Limit word (value_of word said))

-- the first head whose number is out of its limits
unfoldable pub heads_limit : List Saying → Option JobFault
heads_limit said = first_of (map (head_limit said) shape_heads)

abbrev pub least_with : ℕ → Option ℕ → Option ℕ
least_with n None = Some n
least_with n (Some m) = Some (min n m)

unfoldable pub least : List ℕ → Option ℕ
least [] = None
least (n ∷ ns) = least_with n (least ns)

-- the least core with a program that isn't below the number of cores
unfoldable pub core_limit : List Saying → Option JobFault
core_limit said = option_map (λ core. Limit (head.Core core) core) (least (filter (λ core. nat_le (value_of head.Cores said) core) (cores_in said)))

abbrev pub cores_below : List Saying → List ℕ
cores_below said = range_with_len 0 (value_of head.Cores said)

-- the least core without a program
unfoldable pub missing_core : List Saying → Option JobFault
missing_core said = option_map (λ core. Missing (head.Core core)) (find (λ core. is_none (program_of core said)) (cores_below said))

abbrev pub words_limit : ℕ → Option Program → Option JobFault
words_limit core None = None
words_limit core (Some (Words words)) = if nat_le (length words) MAX_TEXT_WORDS then None else Some (Limit (head.Core core) (length words))
words_limit core (Some (Asm name)) = None
words_limit core (Some (Image name)) = None

-- the least core whose text has too many words
unfoldable pub text_limit : List Saying → Option JobFault
text_limit said = first_of (map (λ core. words_limit core (program_of core said)) (cores_below said))

-- ---- the whole text

abbrev pub said_in : List ℕ → List Saying
said_in bytes = sayings_of (rows_of bytes)

abbrev pub text_fault : List ℕ → Option JobFault
text_fault bytes = if is_utf8 bytes then None else Some NotText

-- the steps that look at what all lines say
unfoldable pub said_fault : List Saying → Option JobFault
said_fault said = first_of (missing_head said ∷ heads_limit said ∷ core_limit said ∷ missing_core said ∷ text_limit said ∷ [])

unfoldable pub fault_of : List ℕ → Option JobFault
fault_of bytes = first_of (text_fault bytes ∷ rows_fault [] (rows_of bytes) ∷ said_fault (said_in bytes) ∷ [])
