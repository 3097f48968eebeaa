use Rattle.rv_exec.proofs.effect.exec.Goals as goal

pub returns-in-Branch-clause-asks : goal.returns-in-Branch-clause-asks
returns-in-Branch-clause-asks c = c.branch-is_taken.ensures.asks c.args.memory
