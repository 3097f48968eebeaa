use Rattle.rv_exec.proofs.Lanes.{reads}
use Rattle.rv_exec.proofs.access.number_at.Goals as goal

pub returns-clause-number : goal.returns-clause-number
returns-clause-number c = rw (c.shift_of.ensures, c.mask_of.ensures) (reads c.args.access.now.op c.args.access.now.address c.args.word c.ranges.word.fits c.requires)
