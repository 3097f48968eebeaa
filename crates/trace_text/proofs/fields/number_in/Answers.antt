use Rattle.std.proofs.Common.{rules, ◌≡◌, true}
use Rattle.trace_text.specs.Reading.{is_numeral}
use Rattle.trace_text.proofs.Numerals.{not_text, too_great}
use Rattle.trace_text.proofs.fields.number_in.Goals as goal

pub returns-in_default-clause-value : goal.returns-in_default-clause-value
returns-in_default-clause-value c =
    let is : is_numeral c.args.field.now ≡ true = search rules in
    not_text c.args.most c.args.field.now is c.in_default.ensures.cases.0

pub returns-in_default-parse-2-clause-value : goal.returns-in_default-parse-2-clause-value
returns-in_default-parse-2-clause-value c =
    let is : is_numeral c.args.field.now ≡ true = search rules in
    too_great c.args.most c.args.field.now c.in-Ok.text.now c.in_default-parse.field-0 c.parse.result (search rules) is c.in-Ok.ensures.cases.0 c.in_default-parse.is c.parse.ensures.value.0
