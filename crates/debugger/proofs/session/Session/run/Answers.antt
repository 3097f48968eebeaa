use Rattle.std.proofs.Common.{◌∙◌, arith}
use Rattle.debugger.proofs.Outputs.{goes_on, ends}
use Rattle.debugger.proofs.session.Session.run.Goals as goal

pub loop-command-preserved : goal.loop-command-preserved
loop-command-preserved c = record {
  on = λ job place at. goes_on job place c.args.commands.now c.loop-command.command-index _ _ _ _ _ _ c.loop-command-test.true (c.loop-command.invariant.on job place at)
      (c.in_ok-take.ensures.at job) (c.in_ok-take.ensures.text job);
  shape = c.in_ok-take.ensures.shape ∙ c.loop-command.invariant.shape;
  cores = c.in_ok-take.ensures.cores;
}

pub returns : goal.returns
returns c = λ job place at. ends job place c.args.commands.now c.loop-command.command-index _ _ c.loop-command.self (omega arith) (c.loop-command.invariant.on job place at)
