use Rattle.std.proofs.Common.{refl}
use Rattle.job_text.proofs.RowReads.{none_read}
use Rattle.job_text.proofs.rows.Reader.new.Goals as goal

pub returns : goal.returns
returns c = none_read _ refl c.new.ensures
