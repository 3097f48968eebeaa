-- The bus is that of the job at the start.
use Rattle.std.proofs.Common.{◌≡◌, ℕ, ◌<◌, length, slice_index, refl, ap, ◌∙◌}
use Rattle.circular_buffer.specs.Buffer.{Buffer}
use Rattle.pmsi_model.specs.declared.Action.{Action}
use Rattle.pmsi_model.specs.Slots.{plain_plan}
use Rattle.pmsi_model.specs.Parts.{word_at}
use Rattle.bus_core.proofs.Starts.{opened}
use Rattle.bus_core.proofs.bus.Bus.open.Goals as goal

pub returns-clause-part : goal.returns-clause-part
returns-clause-part c =
    let words : (i : ℕ) → i < length c.in_ok-new.field-0.words → slice_index c.in_ok-new.field-0.words i ≡ word_at c.args.job.now.start i =
    λ i below. c.in_ok-new.ensures.words i below ∙ rw c.start.ensures refl in
    opened c.args.job.now c.in_ok-new.field-0 c.plain-plan.result c.in_ok-recent.recent.items c.args.keep.trace c.in_ok-trace_with_room.field-0.items
    c.in_ok-new.ensures.shared (c.in_ok-new.ensures.shape ∙ c.shape-shape.ensures.shape) (c.plain-plan.ensures ∙ ap plain_plan (ap (λ g. g.cores) c.shape-shape.ensures.shape))
    c.in_ok-new.ensures.posted c.in_ok-new.ensures.owners words
    (ap (λ (b : Buffer Action). b.items) c.in_ok-recent.ensures) c.in_ok-trace_with_room.ensures.items
