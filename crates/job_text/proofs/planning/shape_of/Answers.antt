use Rattle.job_text.proofs.Makings.{shape_said}
use Rattle.job_text.proofs.planning.shape_of.Goals as goal

pub returns : goal.returns
returns c said has none limits =
    shape_said said c.number_of.result c.number_of-2.result c.number_of-3.result c.number_of-4.result c.number_of-5.result c.number_of-6.result c.number_of-7.result none limits
    (c.number_of.ensures said has) (c.number_of-2.ensures said has) (c.number_of-3.ensures said has) (c.number_of-4.ensures said has) (c.number_of-5.ensures said has) (c.number_of-6.ensures said has) (c.number_of-7.ensures said has)
