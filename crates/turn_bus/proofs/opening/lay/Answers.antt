use Rattle.std.proofs.Common.{rules, ◌≡◌, ◌+◌, ℕ, List, [], ◌∷◌, Some, length, slice_index, sym, subst}
use Rattle.atomic_table.specs.Table.{opening}
use Rattle.pmsi_model.specs.Slots.{gap_of, plan_of}
use Rattle.turn_bus.specs.Rule.{Slot, holds, first_of}
use Rattle.turn_bus.specs.Sharing.{IsBusAt}
use Rattle.turn_bus.proofs.SeatLists.{opens}
use Rattle.turn_bus.proofs.opening.lay.Goals as goal

pub new-requires-2 : goal.new-requires-2
new-requires-2 c =
    let about = c.args.about.now in
    let lying = c.in_ok-lying.lying in
    let slot : Slot = Some lying in
    let boxed : lying.value ≡ c.args.bus = search rules in
    let bus = subst (IsBusAt about.job about.keeps 0) (sym boxed) c.requires.1 in
    let words : List ℕ = c.in_ok-words.words.items in
    let ring : length words ≡ gap_of (plan_of about.job) + 1 = search rules in
    let zero : slice_index words 0 ≡ 0 = search rules in
    let same : words ≡ c.deref.result.now = search rules in
    let e : c.push_reserved.new.self.items ≡ slot ∷ [] = search rules in
    subst (λ (ws : List ℕ). holds about (opening ws c.push_reserved.new.self.items (first_of about))) same
    (subst (λ (l : List Slot). holds about (opening words l (first_of about))) (sym e) (opens about.job about.keeps lying words c.requires.0 bus ring zero))
