-- New stamps keep the order.
use Rattle.std.proofs.Common.{◌≡◌, ◌≤◌, ◌++◌, map, length, take, drop, ◌∙◌, arith}
use Rattle.std.proofs.lemmas.List.{take_at}
use Rattle.memory_lut.specs.Table.{rank, ranked_entry, last_stamp}
use Rattle.memory_lut.proofs.Renewal.{posted_ranked, IsTable-ranked}
use Rattle.memory_lut.proofs.stamps.take_stamp.Goals as goal

-- the entries are those that were copied
copied : (c : goal.After-entries-1) → take c.args.entries.now.len (c.copy_from_slice.new.self ++ drop (length c.copy_from_slice.new.self) c.args.entries.now.items) ≡ map (ranked_entry c.args.entries.now.items) c.args.entries.now.items
copied c =
    take_at c.copy_from_slice.new.self (drop (length c.copy_from_slice.new.self) c.args.entries.now.items) c.args.entries.now.len (c.copy_from_slice.ensures.len ∙ c.deref_mut.ensures.len)
    ∙ c.copy_from_slice.ensures.after ∙ c.as_slice.ensures.value ∙ (rw c.as_slice-old.ensures.value at c.renumbered-new.ensures)

pub returns-clause-posted : goal.returns-clause-posted
returns-clause-posted c = rw (copied c) (posted_ranked c.args.entries.now.items)

pub returns-clause-table : goal.returns-clause-table
returns-clause-table c =
    let first = rw c.as_slice-old.ensures.value at c.rank-first.ensures in
    let few : rank c.args.entries.now.items c.args.next ≤ last_stamp = rw (← first.count) (omega (arith, first.few, c.requires.few)) in
    rw (copied c, first.count) (IsTable-ranked c.args.next c.args.entries.now.items few c.requires)
