use Rattle.pmsi_model.specs.declared.AccessOp.TheVariants.{Load}
use Rattle.rv_exec.proofs.Lanes.{stays}
use Rattle.rv_exec.proofs.access.apply.Goals as goal

pub returns-in-Load-clause-bytes : goal.returns-in-Load-clause-bytes
returns-in-Load-clause-bytes c = let aligned = rw c.in-Load.is at c.requires in rw c.in-Load.is (stays (Load c.in-Load.op) c.args.access.address c.args.word aligned)
