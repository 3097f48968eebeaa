use Rattle.pmsi_model.proofs.Worked.{reads_words}
use Rattle.pmsi_model.proofs.examples.reads_words.Goals as goal

pub returns : goal.returns
returns c = reads_words
