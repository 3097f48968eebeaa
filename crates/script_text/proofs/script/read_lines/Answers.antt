use Rattle.std.proofs.Common.{◌∙◌, arith, rules, sym, ap}
use Rattle.std.specs.Str.Lines.{lines}
use Rattle.job_text.specs.Cutting.{rows_from}
use Rattle.script_text.specs.Script.{commands_in}
use Rattle.script_text.proofs.Scripts.{begins, goes_on, stops, ends}
use Rattle.script_text.proofs.script.read_lines.Goals as goal

pub loop-line-init : goal.loop-line-init
loop-line-init c = record {
  utf8 = c.utf8.text;
  read = begins c.args.shape.now c.args.text.now ∙ ap (λ commands. commands_in c.args.shape.now commands (rows_from 1 (lines c.args.text.now))) (sym c.new-commands.ensures.items);
  range = search rules;
  left = omega arith;
}

pub loop-line-preserved : goal.loop-line-preserved
loop-line-preserved c = record {
  utf8 = search rules;
  read = c.loop-line.invariant.read
      ∙ goes_on c.args.shape.now c.loop-line.commands.items c.add_line.new.commands.items c.loop-line.number c.loop-line.rest.now c.in-Some.line.now c.in-Some.after.now c.in-Some.ensures.line c.in_default-add_line.ensures.ok;
  range = c.in_default-add_line.ensures.range;
  left = omega (arith, c.loop-line.invariant.left, c.in-Some.ensures.shorter);
}

pub returns-in-Err-clause-fault : goal.returns-in-Err-clause-fault
returns-in-Err-clause-fault c free =
    c.loop-line.invariant.read
    ∙ stops c.args.shape.now c.loop-line.commands.items c.loop-line.number c.loop-line.rest.now c.in-Some.line.now c.in-Some.after.now c.in-Err.fault c.in-Some.ensures.line (c.in-Err.ensures.err free)

pub returns-clause-commands : goal.returns-clause-commands
returns-clause-commands c =
    c.loop-line.invariant.read ∙ ends c.args.shape.now c.loop-line.commands.items c.loop-line.number c.loop-line.rest.now c.in_default.ensures.end
