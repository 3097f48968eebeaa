-- Lines that were read, one after another.
use Rattle.std.proofs.Common.{◌≡◌, ℕ, ◌+◌, true, false, List, [], ◌∷◌, ◌++◌, Option, Some, None, Ok, Err, refl, sym, ◌∙◌, ap, subst, append_assoc, append-nil}
use Rattle.std.specs.Prelude.{codes}
use Rattle.std.specs.List.{cons_option}
use Rattle.std.specs.Result.{result_ok}
use Rattle.std.specs.Str.{bytes_eq}
use Rattle.std.specs.Str.Lines.{lines}
use Rattle.job_text.specs.declared.gathered.Gathered.{Gathered}
use Rattle.job_text.specs.declared.job_fault.HeadWord.TheVariants as head
use Rattle.job_text.specs.declared.job_fault.LineCause.{LineCause}
use Rattle.job_text.specs.declared.job_fault.LineCause.TheVariants as cause
use Rattle.job_text.specs.declared.job_fault.JobFault.{JobFault}
use Rattle.job_text.specs.declared.job_fault.JobFault.TheVariants.{Line, Twice}
use Rattle.job_text.specs.declared.rows.Reader.{Reader}
use Rattle.job_text.specs.declared.saying.Saying.{Saying}
use Rattle.job_text.specs.declared.saying.Saying.TheVariants.{Sets}
use Rattle.job_text.specs.Cutting.{Row, fields_of, has_some, rows_from, rows_of}
use Rattle.job_text.specs.Faults.{first_of, head_of, number_at, row_fault, rows_fault, sayings_of, was_said}
use Rattle.job_text.specs.Gathering.{HasSaid}
use Rattle.job_text.specs.Rows.{IsReadTo, RefusesLine, TakesLine, TakesRow}
use Rattle.job_text.specs.Sayings.{is_version, read_line, reading_of}

pub first_only : {A : Type 0} (found : Option A) → first_of (found ∷ []) ≡ found
unfolding first_of
first_only None = refl
first_only (Some a) = refl

-- ---- what rows say

cons_append : {A : Type 0} (first : Option A) (others more : List A) → cons_option first others ++ more ≡ cons_option first (others ++ more)
cons_append None others more = refl
cons_append (Some a) others more = refl

pub sayings_push : (before : List Row) (row : Row) (saying : Saying) → reading_of row.fields ≡ Ok saying → sayings_of (before ++ row ∷ []) ≡ sayings_of before ++ saying ∷ []
unfolding sayings_of
sayings_push [] row saying e = rw e refl
sayings_push (first ∷ before) row saying e =
    ap (cons_option (result_ok (reading_of first.fields))) (sayings_push before row saying e) ∙ sym (cons_append (result_ok (reading_of first.fields)) (sayings_of before) (saying ∷ []))

some_push : (before : List Row) (row : Row) → has_some (before ++ row ∷ []) ≡ true
some_push [] row = refl
some_push (first ∷ before) row = refl

pub none_read : (reader : Reader) → reader.begun ≡ false → HasSaid reader.gathered [] → IsReadTo reader []
unfolding sayings_of
none_read reader begun has = record { begun = begun; said = has }

-- ---- the first line

pub begins_wrong : (reader : Reader) (before : List Row) (row : Row) → reader.begun ≡ false → IsReadTo reader before → is_version row.fields ≡ false → row_fault before row ≡ Some (Line row.number cause.Version)
unfolding row_fault
begins_wrong reader [] row begun read e = rw e refl
begins_wrong reader (first ∷ before) row begun read e = let is = read.begun in absurd cc

nothing_before : (said : List Saying) → said ≡ [] → was_said (Sets head.Version 1) said ≡ false
unfolding number_at
nothing_before said e = rw e refl

pub begins : (reader : Reader) (gathered : Gathered) (before : List Row) (row : Row) → reader.begun ≡ false → IsReadTo reader before → is_version row.fields ≡ true
    → ((said : List Saying) → HasSaid reader.gathered said → was_said (Sets head.Version 1) said ≡ false → HasSaid gathered (said ++ Sets head.Version 1 ∷ []))
    → TakesRow before row (record { begun = true; gathered = gathered })
unfolding row_fault sayings_of
begins reader gathered [] row begun read e adds = record {
  faultless = rw e refl;
  read = record { begun = refl; said = rw e (adds [] read.said (nothing_before [] refl)) };
}
begins reader gathered (first ∷ before) row begun read e adds = let is = read.begun in absurd cc

-- ---- a later line

pub version_twice : (reader : Reader) (before : List Row) (number : ℕ) (first : List ℕ) (fields : List (List ℕ)) → reader.begun ≡ true → IsReadTo reader before → bytes_eq first (codes "pmsi") ≡ true
    → row_fault before (record { number = number; fields = first ∷ fields }) ≡ Some (Twice head.Version)
unfolding row_fault
version_twice reader [] number first fields begun read e = let is = read.begun in absurd cc
version_twice reader (row ∷ before) number first fields begun read e = rw e refl

pub line_wrong : (reader : Reader) (before : List Row) (number : ℕ) (first : List ℕ) (fields : List (List ℕ)) (why : LineCause) → reader.begun ≡ true → IsReadTo reader before → bytes_eq first (codes "pmsi") ≡ false
    → read_line (first ∷ fields) ≡ Err why → row_fault before (record { number = number; fields = first ∷ fields }) ≡ Some (Line number why)
unfolding row_fault
line_wrong reader [] number first fields why begun read e is = let has = read.begun in absurd cc
line_wrong reader (row ∷ before) number first fields why begun read e is = rw (e, is) refl

pub said_twice : (reader : Reader) (before : List Row) (number : ℕ) (first : List ℕ) (fields : List (List ℕ)) (saying : Saying) → reader.begun ≡ true → IsReadTo reader before → bytes_eq first (codes "pmsi") ≡ false
    → read_line (first ∷ fields) ≡ Ok saying → was_said saying (sayings_of before) ≡ true → row_fault before (record { number = number; fields = first ∷ fields }) ≡ Some (Twice (head_of saying))
unfolding row_fault
said_twice reader [] number first fields saying begun read e is was = let has = read.begun in absurd cc
said_twice reader (row ∷ before) number first fields saying begun read e is was = rw (e, is, was) refl

said_once : (reader : Reader) (before : List Row) (number : ℕ) (first : List ℕ) (fields : List (List ℕ)) (saying : Saying) → reader.begun ≡ true → IsReadTo reader before → bytes_eq first (codes "pmsi") ≡ false
    → read_line (first ∷ fields) ≡ Ok saying → was_said saying (sayings_of before) ≡ false → row_fault before (record { number = number; fields = first ∷ fields }) ≡ None
unfolding row_fault
said_once reader [] number first fields saying begun read e is was = let has = read.begun in absurd cc
said_once reader (row ∷ before) number first fields saying begun read e is was = rw (e, is, was) refl

plain_reading : (first : List ℕ) (fields : List (List ℕ)) (saying : Saying) → bytes_eq first (codes "pmsi") ≡ false → read_line (first ∷ fields) ≡ Ok saying → reading_of (first ∷ fields) ≡ Ok saying
unfolding is_version
plain_reading first fields saying e is = rw e is

pub adds : (reader : Reader) (gathered : Gathered) (before : List Row) (number : ℕ) (first : List ℕ) (fields : List (List ℕ)) (saying : Saying) → reader.begun ≡ true → IsReadTo reader before → bytes_eq first (codes "pmsi") ≡ false
    → read_line (first ∷ fields) ≡ Ok saying → was_said saying (sayings_of before) ≡ false
    → ((said : List Saying) → HasSaid reader.gathered said → was_said saying said ≡ false → HasSaid gathered (said ++ saying ∷ []))
    → TakesRow before (record { number = number; fields = first ∷ fields }) (record { begun = reader.begun; gathered = gathered })
adds reader gathered before number first fields saying begun read e is was more =
    let row : Row = record { number = number; fields = first ∷ fields } in
    record {
      faultless = said_once reader before number first fields saying begun read e is was;
      read = record {
        begun = begun ∙ sym (some_push before row);
        said = subst (HasSaid gathered) (sym (sayings_push before row saying (plain_reading first fields saying e is))) (more (sayings_of before) read.said was);
      };
    }

-- ---- a line with or without fields

pub takes : (reader : Reader) (before : List Row) (number : ℕ) (fields : List (List ℕ)) (first : List ℕ) (others : List (List ℕ)) → fields ≡ first ∷ others
    → TakesRow before (record { number = number; fields = first ∷ others }) reader → TakesLine before (record { number = number; fields = fields }) reader
unfolding rows_fault first_of
takes reader before number fields first others e taken =
    let row : Row = record { number = number; fields = first ∷ others } in
    subst (λ (fs : List (List ℕ)). TakesLine before (record { number = number; fields = fs }) reader) (sym e) (record {
      after = before ++ row ∷ [];
      read = taken.read;
      faults = λ rows. rw taken.faultless (first_only (rows_fault (before ++ row ∷ []) rows));
      all = λ rows. sym (append_assoc before (row ∷ []) rows);
    })

pub refuses : (before : List Row) (number : ℕ) (fields : List (List ℕ)) (first : List ℕ) (others : List (List ℕ)) (fault : JobFault) → fields ≡ first ∷ others
    → row_fault before (record { number = number; fields = first ∷ others }) ≡ Some fault → RefusesLine before (record { number = number; fields = fields }) fault
unfolding rows_fault first_of
refuses before number fields first others fault e is =
    subst (λ (fs : List (List ℕ)). RefusesLine before (record { number = number; fields = fs }) fault) (sym e) (λ rows. rw is refl)

-- ---- all lines

pub record IsReadUpTo (text : List ℕ) (reader : Reader) (number : ℕ) (rest : List ℕ) : Type 0 where
  pub before : List Row
  pub read : IsReadTo reader before
  pub faults : rows_fault [] (rows_of text) ≡ rows_fault before (rows_from number (lines rest))
  pub all : rows_of text ≡ before ++ rows_from number (lines rest)

pub starts : (text : List ℕ) (reader : Reader) → IsReadTo reader [] → IsReadUpTo text reader 1 text
unfolding rows_of
starts text reader read = record { before = []; read = read; faults = refl; all = refl }

pub goes_on : (text : List ℕ) (reader next : Reader) (number : ℕ) (rest line after : List ℕ) → lines rest ≡ line ∷ lines after → (up : IsReadUpTo text reader number rest)
    → ((before : List Row) → IsReadTo reader before → TakesLine before (record { number = number; fields = fields_of line }) next) → IsReadUpTo text next (number + 1) after
unfolding rows_from
goes_on text reader next number rest line after cut up takes_line =
    let taken = takes_line up.before up.read in
    record {
      before = taken.after;
      read = taken.read;
      faults = up.faults ∙ ap (λ ls. rows_fault up.before (rows_from number ls)) cut ∙ taken.faults (rows_from (number + 1) (lines after));
      all = up.all ∙ ap (λ ls. up.before ++ rows_from number ls) cut ∙ taken.all (rows_from (number + 1) (lines after));
    }

pub stops : (text : List ℕ) (reader : Reader) (number : ℕ) (rest line after : List ℕ) (fault : JobFault) → lines rest ≡ line ∷ lines after → (up : IsReadUpTo text reader number rest)
    → ((before : List Row) → IsReadTo reader before → RefusesLine before (record { number = number; fields = fields_of line }) fault) → rows_fault [] (rows_of text) ≡ Some fault
unfolding rows_from
stops text reader number rest line after fault cut up refuses_line =
    up.faults ∙ ap (λ ls. rows_fault up.before (rows_from number ls)) cut ∙ refuses_line up.before up.read (rows_from (number + 1) (lines after))

pub ends_faultless : (text : List ℕ) (reader : Reader) (number : ℕ) (rest : List ℕ) → lines rest ≡ [] → IsReadUpTo text reader number rest → rows_fault [] (rows_of text) ≡ None
unfolding rows_from rows_fault
ends_faultless text reader number rest end up = up.faults ∙ ap (λ ls. rows_fault up.before (rows_from number ls)) end

pub ends_said : (text : List ℕ) (reader : Reader) (number : ℕ) (rest : List ℕ) → lines rest ≡ [] → IsReadUpTo text reader number rest → HasSaid reader.gathered (sayings_of (rows_of text))
unfolding rows_from
ends_said text reader number rest end up =
    subst (λ rows. HasSaid reader.gathered (sayings_of rows)) (sym (up.all ∙ ap (λ ls. up.before ++ rows_from number ls) end ∙ append-nil up.before)) up.read.said
