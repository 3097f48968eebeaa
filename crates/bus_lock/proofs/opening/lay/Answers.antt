use Rattle.std.proofs.Common.{rules, ◌≡◌, List, [], ◌∷◌, Some, sym, subst}
use Rattle.atomic_table.specs.Table.{opening}
use Rattle.bus_lock.specs.Rule.{Slot, holds, first_of}
use Rattle.bus_lock.proofs.SeatLists.{opens}
use Rattle.bus_lock.proofs.opening.lay.Goals as goal

pub new-requires : goal.new-requires
new-requires c =
    let about = c.args.about.now in
    let slot : Slot = Some c.args.bus in
    let e : c.push_reserved.new.self.items ≡ slot ∷ [] = search rules in
    subst (λ (l : List Slot). holds about (opening (0 ∷ []) l (first_of about))) (sym e) (opens about.job about.keeps c.args.bus c.requires.0 c.requires.1)
