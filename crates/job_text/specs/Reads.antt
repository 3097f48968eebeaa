-- What a reader of a line answers.
use Rattle.std.specs.Prelude.{◌≡◌, Result, Ok, Err, MatchResult}
use Rattle.job_text.specs.declared.job_fault.LineCause.{LineCause}
use Rattle.job_text.specs.declared.misread.Misread.{Misread}
use Rattle.job_text.specs.declared.misread.Misread.TheVariants.{Cause, NoMemory}
use Rattle.job_text.specs.declared.saying.Saying.{Saying}

-- this is wrong, unless memory ran out
abbrev pub IsMisread : Misread → Result Saying LineCause → Type 0
IsMisread (Cause why) reading = reading ≡ Err why
IsMisread NoMemory reading = Unit {0}

-- what was read, or why not
abbrev pub IsReadAs : Result Saying Misread → Result Saying LineCause → Type 0
IsReadAs result reading = MatchResult result (λ saying. reading ≡ Ok saying) (λ e. IsMisread e reading)
