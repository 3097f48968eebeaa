use Rattle.std.proofs.Common.{arith, rules}
use Rattle.job_text.proofs.RowReads.{starts, goes_on, stops, ends_faultless, ends_said}
use Rattle.job_text.proofs.rows.read_rows.Goals as goal

pub loop-line-init : goal.loop-line-init
loop-line-init c = (c.utf8.text, starts c.args.text.now c.new-reader.result c.new-reader.ensures, omega arith)

pub loop-line-preserved : goal.loop-line-preserved
loop-line-preserved c = (
  search rules,
  goes_on c.args.text.now c.loop-line.reader c.add_line.new.self c.loop-line.number c.loop-line.rest.now c.in-Some.line.now c.in-Some.after.now c.in-Some.ensures.line c.loop-line.invariant.1 c.in_default-add_line.ensures.ok,
  omega (arith, c.loop-line.invariant.2, c.in-Some.ensures.shorter),
)

pub returns-in-Err-clause-err : goal.returns-in-Err-clause-err
returns-in-Err-clause-err c free =
    stops c.args.text.now c.loop-line.reader c.loop-line.number c.loop-line.rest.now c.in-Some.line.now c.in-Some.after.now c.in-Err.fault c.in-Some.ensures.line c.loop-line.invariant.1 (c.in-Err.ensures.err free)

pub returns-clause-ok : goal.returns-clause-ok
returns-clause-ok c = (
  ends_faultless c.args.text.now c.loop-line.reader c.loop-line.number c.loop-line.rest.now c.in_default.ensures.end c.loop-line.invariant.1,
  ends_said c.args.text.now c.loop-line.reader c.loop-line.number c.loop-line.rest.now c.in_default.ensures.end c.loop-line.invariant.1,
)
