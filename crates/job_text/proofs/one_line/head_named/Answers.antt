-- The name is none of the table's.
use Rattle.std.proofs.Common.{sym}
use Rattle.job_text.specs.Sayings.{heads, head_named}
use Rattle.job_text.proofs.HeadTables.{named-none}
use Rattle.job_text.proofs.one_line.head_named.Goals as goal

pub returns-in_default : goal.returns-in_default
unfolding head_named
returns-in_default c = sym (named-none heads c.args.name.now assumption)
