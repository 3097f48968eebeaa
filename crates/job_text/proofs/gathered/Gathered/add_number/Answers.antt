use Rattle.std.proofs.Common.{rules}
use Rattle.job_text.proofs.Gatherings.{number_said}
use Rattle.job_text.proofs.gathered.Gathered.add_number.Goals as goal

pub returns : goal.returns
returns c said has none = number_said c.args.self.now said c.args.word c.args.number c.place.result has none c.place.ensures.place (search rules)
