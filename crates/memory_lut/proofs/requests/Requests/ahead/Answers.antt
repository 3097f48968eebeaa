-- Those that stand before the core's request have lesser stamps.
use Rattle.std.proofs.Common.{Some, sym, ap, ◌∙◌}
use Rattle.memory_lut.proofs.ByStamp.{entry_found, request_found}
use Rattle.memory_lut.proofs.Searches.{count_ahead}
use Rattle.memory_lut.proofs.requests.Requests.ahead.Goals as goal

pub returns-in_err-own : goal.returns-in_err-own
returns-in_err-own c =
    let entry = rw c.as_slice-entries.ensures.value at c.entry_of.ensures in
    rw (← c.self.view_is, request_found c.self.inside.next c.args.core c.self.inside.entries.items _ c.self.invariant (sym entry ∙ c.in_err-own.was)) c.from_residual.ensures

pub returns : goal.returns
returns c =
    let entry = rw c.as_slice-entries.ensures.value at c.entry_of.ensures in
    let own = sym entry ∙ c.in_ok-own.was in
    rw (← c.self.view_is, request_found c.self.inside.next c.args.core c.self.inside.entries.items _ c.self.invariant own, c.count_before.ensures, c.as_slice-entries.ensures.value)
    (ap Some (count_ahead c.args.core c.in_ok-own.own.line c.self.inside.entries.items c.in_ok-own.own c.self.invariant.rises (entry_found c.self.inside.next c.args.core c.self.inside.entries.items _ c.self.invariant own)))
