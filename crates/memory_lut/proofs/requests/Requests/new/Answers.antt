-- A table without requests.
use Rattle.std.proofs.Common.{rules}
use Rattle.memory_lut.proofs.Entries.{table_none, IsTable-none}
use Rattle.memory_lut.proofs.requests.Requests.new.Goals as goal

pub invariant_of-result : goal.invariant_of-result
invariant_of-result c = IsTable-none c.args.cores _ c.requires (c.in_ok-vec.ensures.items_if_clones_equal (search rules))

pub returns : goal.returns
returns c = table_none c.args.cores _ (c.in_ok-vec.ensures.items_if_clones_equal (search rules))
