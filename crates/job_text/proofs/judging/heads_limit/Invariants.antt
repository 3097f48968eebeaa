use Rattle.std.proofs.Common.{◌≡◌, List, drop, map}
use Rattle.job_text.specs.declared.saying.Saying.{Saying}
use Rattle.job_text.specs.Faults.{first_of, head_limit, heads_limit, shape_heads}
use Rattle.job_text.specs.Gathering.{HasSaid}
use Rattle.job_text.proofs.judging.heads_limit.Given as goal

abbrev pub invariant-loop-word : goal.invariant-loop-word
invariant-loop-word l = (said : List Saying) → HasSaid l.gathered said → heads_limit said ≡ first_of (map (head_limit said) (drop l.word-index shape_heads))
