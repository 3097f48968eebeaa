use Rattle.std.proofs.Common.{arith, inl, ◌∙◌}
use Rattle.core_unit.proofs.Opens.{opened_by, parts_by}
use Rattle.core_unit.proofs.unit.Core.open.Goals.{then-keep, else-keep}
use Rattle.core_unit.proofs.unit.Core.open.Goals as goal

pub invariant_of-result : goal.invariant_of-result
invariant_of-result c = record {
  job = c.args.job.now;
  slot = 0;
  core = c.args.core;
  part = inl (opened_by c.args.job.now c.args.core c.count_own-rows.result c.if-keep.touches c.args.keep.touches c.shape-shape.result _
      c.shape-shape.ensures.within c.requires.core c.shape-shape.ensures.shape
      (parts_by c.args.job.now c.args.core c.count_own-rows.result c.if-keep.touches c.shape-shape.result c.plain-plan.result c.in_ok-text.text c.start.result
      c.in_ok-new.field-0 c.new-2.result c.new-3.result c.in_ok-with_room.field-0 c.in_ok-with_room-2.field-0
      c.shape-shape.ensures.shape c.plain-plan.ensures (c.in_ok-text.ensures ∙ c.as_slice.ensures ∙ c.text.ensures) c.start.ensures
      c.in_ok-new.ensures c.new-2.ensures c.new-3.ensures c.in_ok-with_room.ensures c.in_ok-with_room-2.ensures)
      c.count_own-rows.ensures
      (λ kept. elim c.if-keep.branch [
        | then-keep w ↦ omega (arith, w.touches-is)
        | else-keep w ↦ absurd (grind (arith, kept, w.if-keep.false))
      ]));
}

pub returns-clause-part : goal.returns-clause-part
returns-clause-part c = opened_by c.args.job.now c.args.core c.count_own-rows.result c.if-keep.touches c.args.keep.touches c.shape-shape.result _
    c.shape-shape.ensures.within c.requires.core c.shape-shape.ensures.shape
    (parts_by c.args.job.now c.args.core c.count_own-rows.result c.if-keep.touches c.shape-shape.result c.plain-plan.result c.in_ok-text.text c.start.result
    c.in_ok-new.field-0 c.new-2.result c.new-3.result c.in_ok-with_room.field-0 c.in_ok-with_room-2.field-0
    c.shape-shape.ensures.shape c.plain-plan.ensures (c.in_ok-text.ensures ∙ c.as_slice.ensures ∙ c.text.ensures) c.start.ensures
    c.in_ok-new.ensures c.new-2.ensures c.new-3.ensures c.in_ok-with_room.ensures c.in_ok-with_room-2.ensures)
    c.count_own-rows.ensures
    (λ kept. elim c.if-keep.branch [
      | then-keep w ↦ omega (arith, w.touches-is)
      | else-keep w ↦ absurd (grind (arith, kept, w.if-keep.false))
    ])
