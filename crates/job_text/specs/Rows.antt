-- What the code has done after some lines.
use Rattle.std.specs.Prelude.{◌≡◌, List, [], ◌∷◌, ◌++◌, Some, None}
use Rattle.job_text.specs.declared.job_fault.JobFault.{JobFault}
use Rattle.job_text.specs.declared.rows.Reader.{Reader}
use Rattle.job_text.specs.Cutting.{Row, has_some, with_row}
use Rattle.job_text.specs.Faults.{row_fault, rows_fault, sayings_of}
use Rattle.job_text.specs.Gathering.{HasSaid}

-- the reader has read these lines
pub record IsReadTo (reader : Reader) (before : List Row) : Type 0 where
  pub begun : reader.begun ≡ has_some before
  pub said : HasSaid reader.gathered (sayings_of before)

-- nothing is wrong with a line behind some others, and it was read too
pub record TakesRow (before : List Row) (row : Row) (reader : Reader) : Type 0 where
  pub faultless : row_fault before row ≡ None
  pub read : IsReadTo reader (before ++ row ∷ [])

-- the same of a line that may have no fields, with any lines behind it
pub record TakesLine (before : List Row) (row : Row) (reader : Reader) : Type 0 where
  pub after : List Row
  pub read : IsReadTo reader after
  pub faults : (rows : List Row) → rows_fault before (with_row row rows) ≡ rows_fault after rows
  pub all : (rows : List Row) → before ++ with_row row rows ≡ after ++ rows

-- a line is the first with a fault, whatever stands behind it
abbrev pub RefusesLine : List Row → Row → JobFault → Type 0
RefusesLine before row fault = (rows : List Row) → rows_fault before (with_row row rows) ≡ Some fault
