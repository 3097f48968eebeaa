use Rattle.pmsi_model.proofs.Queues.{queue_is_read, place_is_read}
use Rattle.pmsi_model.proofs.laws.queues.Goals as goal

pub returns : goal.returns
returns c = record { readers = queue_is_read; places = place_is_read }
