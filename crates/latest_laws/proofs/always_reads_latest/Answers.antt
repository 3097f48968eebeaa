use Rattle.latest_laws.proofs.Runs.{always_reads_latest}
use Rattle.latest_laws.proofs.always_reads_latest.Goals as goal

pub returns : goal.returns
returns c = always_reads_latest
