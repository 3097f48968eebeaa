-- The sets are a power of two.
use Rattle.std.proofs.Common.{arith}
use Rattle.cache_array.proofs.Powers.{masked}
use Rattle.cache_array.proofs.address.set_of.Goals as goal

pub returns : goal.returns
returns c = masked c.args.line c.args.shape.now.sets c.requires.sets (omega (arith, c.requires.greatest_sets))
