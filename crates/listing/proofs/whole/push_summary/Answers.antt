use Rattle.std.proofs.Common.{◌≡◌, List, ℕ, OnOk, ap, ◌∙◌, subst}
use Rattle.pmsi_model.specs.Shared.{BusSide}
use Rattle.listing.proofs.Parts.{summary_parts}
use Rattle.listing.proofs.whole.push_summary.Goals as goal

pub returns : goal.returns
returns c = λ job at.
    let P : List ℕ → Type 0 = λ x. OnOk c.push_bound_line.result (c.push_bound_line.new.out.items ≡ x) in
    let n : ℕ = job.shape.slots in
    subst P (summary_parts job c.args.sim.now.bus.memory.shape c.shape.result c.table.result.now c.bound.result _ _ _
    at.side.memory.shape (c.shape.ensures.machine job n at) (c.table.ensures.table ∙ ap (λ (b : BusSide). b.plan) c.bus.ensures.value ∙ at.side.plan) c.bound.ensures
    c.in_ok-push_shape_line.ensures (c.in_ok-push_waits_lines.ensures job n at)) c.push_bound_line.ensures
