use Rattle.std.proofs.Common.{refl}
use Rattle.job_text.proofs.Gatherings.{nothing_said}
use Rattle.job_text.proofs.gathered.Gathered.new.Goals as goal

pub returns : goal.returns
returns c = nothing_said _ refl c.new.ensures.items c.new-2.ensures.empty
