use Rattle.listing.proofs.Sums.{one_more}
use Rattle.listing.proofs.waits.Waits.with_row.Goals as goal

pub returns-clause-waits : goal.returns-clause-waits
returns-clause-waits c = λ rows h. one_more c.args.core rows c.args.row.now c.args.self c.wait_of-wait.result c.max.result c.if-row-core.false c.wait_of-wait.ensures.wait c.max.ensures h
