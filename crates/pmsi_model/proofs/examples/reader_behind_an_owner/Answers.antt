use Rattle.pmsi_model.proofs.Worked.{reader_behind_an_owner}
use Rattle.pmsi_model.proofs.examples.reader_behind_an_owner.Goals as goal

pub returns : goal.returns
returns c = reader_behind_an_owner
