use Rattle.std.proofs.Common.{rules, sym}
use Rattle.job_text.specs.Cutting.{fields_between}
use Rattle.job_text.specs.Sayings.{words_in}
use Rattle.job_text.proofs.WordFields.{more, none, whole}
use Rattle.job_text.proofs.one_line.words_in.Goals as goal

pub returns-in_default-word_in : goal.returns-in_default-word_in
returns-in_default-word_in c =
    none (words_in (fields_between c.args.text.now)) c.loop-field.words.items c.in-Some.field.now (fields_between c.loop-field.rest.now) (fields_between c.in-Some.after.now)
    c.in-Some.ensures.field (sym c.in_default-word_in.ensures) c.loop-field.invariant.1

pub loop-field-preserved : goal.loop-field-preserved
loop-field-preserved c = (
  search rules,
  rw c.in_ok-push.ensures.items (more (words_in (fields_between c.args.text.now)) c.loop-field.words.items c.in-Some-word_in.word c.in-Some.field.now (fields_between c.loop-field.rest.now) (fields_between c.in-Some.after.now)
      c.in-Some.ensures.field (sym c.in-Some-word_in.ensures) c.loop-field.invariant.1),
)

pub returns : goal.returns
returns c = whole (words_in (fields_between c.args.text.now)) c.loop-field.words.items (fields_between c.loop-field.rest.now) c.in_default.ensures.end c.loop-field.invariant.1
