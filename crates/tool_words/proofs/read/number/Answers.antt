use Rattle.std.proofs.Common.{◌∙◌, arith, sym}
use Rattle.tool_words.proofs.Numbers.{too_large}
use Rattle.tool_words.proofs.read.number.Goals as goal

pub returns-in-Err-clause-value : goal.returns-in-Err-clause-value
returns-in-Err-clause-value c = sym (too_large c.args.least c.args.most c.args.text.now c.parse.result c.in-Err.field-0 (omega arith)
    c.parse.ensures.value.0 (sym c.is_number.ensures ∙ c.if-not-is_number.false) c.in-Err.is)
