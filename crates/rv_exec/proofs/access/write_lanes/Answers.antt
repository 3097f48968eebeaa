use Rattle.rv_exec.proofs.Lanes.{writes}
use Rattle.rv_exec.proofs.access.write_lanes.Goals as goal

pub returns : goal.returns
returns c = rw (c.shift_of-shift.ensures, c.mask_of-mask.ensures) (writes c.args.access.now.op c.args.access.now.address c.args.word c.args.number c.ranges.word.fits c.requires)
