use Rattle.std.proofs.Common.{◌<◌, length, arith, sym}
use Rattle.std.proofs.lemmas.Bool.{eqb-true, eqb-false}
use Rattle.job_text.proofs.Fields.{at_blanks, at_end, no_field, one_field, field_shorter}
use Rattle.job_text.proofs.cutting.next_field.Goals as goal

pub split_at-requires : goal.split_at-requires
split_at-requires c = at_blanks c.args.text.now c.as_bytes.result.now c.blank_run.result c.utf8.text c.as_bytes.ensures.value c.blank_run.ensures

pub split_at-requires-2 : goal.split_at-requires-2
split_at-requires-2 c = at_end c.split_at.result.1.now c.as_bytes-2.result.now c.field_end.result c.as_bytes-2.ensures.value c.field_end.ensures

pub returns-then-is_empty-clause-end : goal.returns-then-is_empty-clause-end
returns-then-is_empty-clause-end c = no_field c.args.text.now c.as_bytes.result.now c.split_at.result.1.now c.blank_run.result c.as_bytes.ensures.value c.blank_run.ensures c.split_at.ensures.back
    (eqb-true (length c.split_at.result.1.now) 0 (sym c.if-is_empty.ensures))

pub returns-clause-field : goal.returns-clause-field
returns-clause-field c =
    let some : 0 < length c.split_at.result.1.now = omega (arith, eqb-false (length c.split_at.result.1.now) 0 (sym c.if-is_empty.ensures)) in
    one_field c.args.text.now c.as_bytes.result.now c.split_at.result.1.now c.as_bytes-2.result.now c.split_at-2.result.0.now c.split_at-2.result.1.now c.blank_run.result c.field_end.result
    c.as_bytes.ensures.value c.blank_run.ensures c.split_at.ensures.back some c.as_bytes-2.ensures.value c.field_end.ensures c.split_at-2.ensures.front c.split_at-2.ensures.back

pub returns-clause-shorter : goal.returns-clause-shorter
returns-clause-shorter c =
    let some : 0 < length c.split_at.result.1.now = omega (arith, eqb-false (length c.split_at.result.1.now) 0 (sym c.if-is_empty.ensures)) in
    field_shorter c.args.text.now c.as_bytes.result.now c.split_at.result.1.now c.as_bytes-2.result.now c.split_at-2.result.1.now c.blank_run.result c.field_end.result
    c.as_bytes.ensures.value c.blank_run.ensures c.split_at.ensures.back some c.as_bytes-2.ensures.value c.field_end.ensures c.split_at-2.ensures.back
