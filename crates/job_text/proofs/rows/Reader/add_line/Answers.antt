use Rattle.std.proofs.Common.{sym, ap, ◌∙◌}
use Rattle.std.proofs.lemmas.Result.{IfOk-weaker, IfErr-weaker}
use Rattle.job_text.specs.Cutting.{fields_between, fields_of}
use Rattle.job_text.proofs.RowReads.{takes, refuses}
use Rattle.job_text.proofs.rows.Reader.add_line.Goals as goal

pub returns-in-Some-clause-ok : goal.returns-in-Some-clause-ok
returns-in-Some-clause-ok c =
    IfOk-weaker c.add_fields.result _ _ (λ done h before read.
    takes c.add_fields.new.self before c.args.number (fields_of c.args.line.now) c.in-Some.first.now (fields_between c.in-Some.rest.now) (ap fields_between (sym c.code_of.ensures) ∙ c.in-Some.ensures.field) (h before read)) c.add_fields.ensures.ok

pub returns-in-Some-clause-err : goal.returns-in-Some-clause-err
returns-in-Some-clause-err c =
    IfErr-weaker c.add_fields.result _ _ (λ fault h free before read.
    refuses before c.args.number (fields_of c.args.line.now) c.in-Some.first.now (fields_between c.in-Some.rest.now) fault (ap fields_between (sym c.code_of.ensures) ∙ c.in-Some.ensures.field) (h free before read)) c.add_fields.ensures.err
