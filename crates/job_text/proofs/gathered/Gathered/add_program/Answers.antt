use Rattle.job_text.proofs.Gatherings.{program_said}
use Rattle.job_text.proofs.gathered.Gathered.add_program.Goals as goal

pub returns-in-Ok : goal.returns-in-Ok
returns-in-Ok c said has none = program_said c.args.self.now said c.args.core c.args.program c.insert.new.self c.push.new.self has none c.in_ok-push.ensures.items c.in-Ok.ensures.updates.0
