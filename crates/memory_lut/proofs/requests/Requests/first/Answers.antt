-- The request of the least stamp is the first.
use Rattle.std.proofs.Common.{sym, ap, ◌∙◌}
use Rattle.std.specs.Option.{option_map}
use Rattle.memory_lut.specs.declared.entry.Entry.{Entry}
use Rattle.memory_lut.proofs.Searches.{soonest_first}
use Rattle.memory_lut.proofs.requests.Requests.first.Goals as goal

pub returns-in_err-entry : goal.returns-in_err-entry
returns-in_err-entry c =
    let soonest = rw c.as_slice.ensures.value at c.soonest.ensures in
    rw (← c.self.view_is) (c.from_residual.ensures ∙ sym (ap (option_map (λ (s : Entry). s.core)) (sym soonest ∙ c.in_err-entry.was)) ∙ soonest_first c.args.line c.self.inside.entries.items c.self.invariant.rises)

pub returns : goal.returns
returns c =
    let soonest = rw c.as_slice.ensures.value at c.soonest.ensures in
    rw (← c.self.view_is) (sym (ap (option_map (λ (s : Entry). s.core)) (sym soonest ∙ c.in_ok-entry.was)) ∙ soonest_first c.args.line c.self.inside.entries.items c.self.invariant.rises)
