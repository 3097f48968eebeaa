use Rattle.trace_text.proofs.Accepted.{read_is_written}
use Rattle.trace_text.proofs.Agains.{written_is_read}
use Rattle.trace_text.proofs.laws.one_text.Goals as goal

pub returns-clause-written : goal.returns-clause-written
returns-clause-written c = written_is_read

pub returns-clause-read : goal.returns-clause-read
returns-clause-read c = read_is_written
