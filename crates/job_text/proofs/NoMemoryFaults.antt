-- Want of memory is no fault of a text.
use Rattle.std.proofs.Common.{◌≡◌, ◌≢◌, ℕ, Bool, true, false, cond, List, [], ◌∷◌, ◌++◌, map, Option, Some, None, Ok, Err, option_map}
use Rattle.std.specs.Prelude.{Result, codes, is_none, nat_le}
use Rattle.std.specs.List.{filter, find}
use Rattle.std.specs.Str.{is_utf8}
use Rattle.job_text.specs.declared.job_fault.HeadWord.TheVariants as head
use Rattle.job_text.specs.declared.job_fault.LineCause.{LineCause}
use Rattle.job_text.specs.declared.job_fault.LineCause.TheVariants as cause
use Rattle.job_text.specs.declared.job_fault.JobFault.{JobFault}
use Rattle.job_text.specs.declared.job_fault.JobFault.TheVariants.{Limit, Line, Missing, NoMemory, NotText, Twice}
use Rattle.job_text.specs.declared.plan.Program.{Program}
use Rattle.job_text.specs.declared.plan.Program.TheVariants.{Asm, Image, Words}
use Rattle.job_text.specs.declared.saying.Saying.{Saying}
use Rattle.job_text.specs.Cutting.{Row, rows_of}
use Rattle.job_text.specs.Faults.{all_heads, core_limit, cores_below, cores_in, fault_of, first_is, first_of, head_limit, head_of, heads_limit, is_within, least, missing_core, missing_head, number_of, program_of, reading_fault, row_fault, rows_fault, said_fault, said_in, sayings_of, shape_heads, text_fault, text_limit, value_of, was_said, words_limit}
use Rattle.job_text.specs.Laws.{NeverMemory}
use Rattle.job_text.specs.Sayings.{is_version, read_line}

abbrev IsFree : Option JobFault → Type 0
IsFree found = found ≢ Some NoMemory

first_free : (first : Option JobFault) (others : List (Option JobFault)) → IsFree first → IsFree (first_of others) → IsFree (first_of (first ∷ others))
unfolding first_of
first_free None others one two = two
first_free (Some fault) others one two = one

end_free : IsFree (first_of [])
unfolding first_of
end_free = λ e. cc

map_free : {X : Type 0} (f : X → Option JobFault) (xs : List X) → ((x : X) → IsFree (f x)) → IsFree (first_of (map f xs))
map_free f [] each = end_free
map_free f (x ∷ xs) each = first_free (f x) (map f xs) (each x) (map_free f xs each)

if_free : (test : Bool) (one two : Option JobFault) → IsFree one → IsFree two → IsFree (cond test one two)
if_free true one two a b = a
if_free false one two a b = b

made_free : {X : Type 0} (f : X → JobFault) (found : Option X) → ((x : X) → f x ≢ NoMemory) → IsFree (option_map f found)
made_free f None each = λ e. cc
made_free f (Some x) each = λ e. let same : f x ≡ NoMemory = some_is (f x) NoMemory e in each x same where
  some_is : (a b : JobFault) → Some a ≡ Some b → a ≡ b
  some_is a b e = cc

reading_free : (said : List Saying) (number : ℕ) (reading : Result Saying LineCause) → IsFree (reading_fault said number reading)
reading_free said number (Err why) = λ e. cc
reading_free said number (Ok saying) = if_free (was_said saying said) (Some (Twice (head_of saying))) None (λ e. cc) (λ e. cc)

row_free : (before : List Row) (row : Row) → IsFree (row_fault before row)
unfolding row_fault
row_free [] row = if_free (is_version row.fields) None (Some (Line row.number cause.Version)) (λ e. cc) (λ e. cc)
row_free (first ∷ before) row =
    if_free (first_is (codes "pmsi") row.fields) (Some (Twice head.Version)) (reading_fault (sayings_of (first ∷ before)) row.number (read_line row.fields)) (λ e. cc)
    (reading_free (sayings_of (first ∷ before)) row.number (read_line row.fields))

rows_free : (before rows : List Row) → IsFree (rows_fault before rows)
unfolding rows_fault
rows_free before [] = λ e. cc
rows_free before (row ∷ rows) =
    first_free (row_fault before row) (rows_fault (before ++ row ∷ []) rows ∷ []) (row_free before row) (first_free (rows_fault (before ++ row ∷ []) rows) [] (rows_free (before ++ row ∷ []) rows) end_free)

words_free : (core : ℕ) (program : Option Program) → IsFree (words_limit core program)
words_free core None = λ e. cc
words_free core (Some (Words words)) = if_free _ None (Some _) (λ e. cc) (λ e. cc)
words_free core (Some (Asm name)) = λ e. cc
words_free core (Some (Image name)) = λ e. cc

module _ (said : List Saying) where
  heads_free : IsFree (heads_limit said)
  unfolding heads_limit
  heads_free = map_free (head_limit said) shape_heads (λ word. if_free (is_within (value_of head.Line said) word (value_of word said)) None (Some (Limit word (value_of word said))) (λ e. cc) (λ e. cc))

  missing_free : IsFree (missing_head said)
  unfolding missing_head
  missing_free = made_free Missing (find (λ word. is_none (number_of word said)) all_heads) (λ word e. cc)

  core_free : IsFree (core_limit said)
  unfolding core_limit
  core_free = made_free (λ core. Limit (head.Core core) core) (least (filter (λ core. nat_le (value_of head.Cores said) core) (cores_in said))) (λ core e. cc)

  no_core_free : IsFree (missing_core said)
  unfolding missing_core
  no_core_free = made_free (λ core. Missing (head.Core core)) (find (λ core. is_none (program_of core said)) (cores_below said)) (λ core e. cc)

  texts_free : IsFree (text_limit said)
  unfolding text_limit
  texts_free = map_free (λ core. words_limit core (program_of core said)) (cores_below said) (λ core. words_free core (program_of core said))

  said_free : IsFree (said_fault said)
  unfolding said_fault
  said_free =
      first_free (missing_head said) (heads_limit said ∷ core_limit said ∷ missing_core said ∷ text_limit said ∷ []) missing_free
      (first_free (heads_limit said) (core_limit said ∷ missing_core said ∷ text_limit said ∷ []) heads_free
      (first_free (core_limit said) (missing_core said ∷ text_limit said ∷ []) core_free
      (first_free (missing_core said) (text_limit said ∷ []) no_core_free (first_free (text_limit said) [] texts_free end_free))))

pub never_memory : NeverMemory
unfolding fault_of
never_memory bytes =
    first_free (text_fault bytes) (rows_fault [] (rows_of bytes) ∷ said_fault (said_in bytes) ∷ []) (if_free (is_utf8 bytes) None (Some NotText) (λ e. cc) (λ e. cc))
    (first_free (rows_fault [] (rows_of bytes)) (said_fault (said_in bytes) ∷ []) (rows_free [] (rows_of bytes)) (first_free (said_fault (said_in bytes)) [] (said_free (said_in bytes)) end_free))
