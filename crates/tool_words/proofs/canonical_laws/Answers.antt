use Rattle.tool_words.proofs.Canonical.{allowed, canonical}
use Rattle.tool_words.proofs.canonical_laws.Goals as goal

pub returns : goal.returns
returns c = record { table = canonical; allowed = allowed }
