use Rattle.std.proofs.Common.{rules}
use mathlib.Core.Option.{none}
use Rattle.atomic_table.specs.Table.{step}
use Rattle.bus_lock.proofs.LockTries.{tries, free_of, slot_of, taken}
use Rattle.bus_lock.proofs.trying.take.Goals as goal

pub fetch_or-found-requires : goal.fetch_or-found-requires
fetch_or-found-requires c = (search rules, search rules, tries _ _ _ _ c.requires.rests)

pub exchange-requires : goal.exchange-requires
exchange-requires c = let n = c.fetch_or-found.result in let m = c.args.chair.now.me in let m' = c.fetch_or-found.new.seat.me in
    (search rules, slot_of m m' n (free_of (step c.args.place.now.table_id.slots 0 1 0 none) m m' n c.fetch_or-found.ensures.2 c.if-found-eq1.false))

pub returns-clause-ok : goal.returns-clause-ok
returns-clause-ok c = let n = c.fetch_or-found.result in let m = c.args.chair.now.me in let m' = c.fetch_or-found.new.seat.me in
    taken m m' c.exchange.new.seat.me n c.in-Some.bus (free_of (step c.args.place.now.table_id.slots 0 1 0 none) m m' n c.fetch_or-found.ensures.2 c.if-found-eq1.false) (search rules) (search rules) c.requires.rests.2
