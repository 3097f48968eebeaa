use Rattle.core_unit.proofs.States.{fits_still}
use Rattle.core_unit.proofs.state.State.fill_line.Goals as goal

pub put-requires-clause-room : goal.put-requires-clause-room
put-requires-clause-room c = fits_still c.args.want.now c.args.words.now c.args.self.now c.change-state.new.self c.requires c.change-state.ensures.after
