use Rattle.pmsi_tool.proofs.answer.run_serially.Goals as goal

pub returns-clause-keeps : goal.returns-clause-keeps
returns-clause-keeps c = c.run.ensures.keeps c.args.keep c.in_ok-sim.ensures.keeps
