-- The request goes last, with the greatest stamp.
use Rattle.std.proofs.Common.{◌≡◌, ◌<◌, None, refl, length}
use Rattle.pmsi_model.specs.Machine.{request_of}
use Rattle.memory_lut.specs.Table.{posted_of}
use Rattle.memory_lut.proofs.Entries.{table_filled, IsTable-filled}
use Rattle.memory_lut.proofs.requests.Requests.push.Goals as goal

unposted : (c : goal.After-self-2-1) → request_of c.args.core (posted_of c.take_stamp-stamp.new.entries.items) ≡ None
unposted c = rw c.take_stamp-stamp.ensures.posted (rw (← c.self.view_is) at c.requires.unposted)

below : (c : goal.After-self-2-1) → c.args.core < length c.take_stamp-stamp.new.entries.items
below c = rw c.take_stamp-stamp.ensures.count (rw (← c.self.view_is) at c.requires.core)

pub invariant_of-self : goal.invariant_of-self
invariant_of-self c =
    IsTable-filled c.args.core _ c.take_stamp-stamp.new.entries.items (below c) refl c.take_stamp-stamp.ensures.more c.take_stamp-stamp.ensures.table (unposted c)

pub returns : goal.returns
returns c =
    rw (← c.self.view_is, ← c.take_stamp-stamp.ensures.posted, ← c.take_stamp-stamp.ensures.count)
    (table_filled c.args.core _ c.take_stamp-stamp.new.entries.items (below c) c.take_stamp-stamp.ensures.table (unposted c))
