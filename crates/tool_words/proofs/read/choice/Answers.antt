use Rattle.std.proofs.Common.{◌∙◌, ap}
use Rattle.tool_words.specs.Clap.{given}
use Rattle.clap.specs.Words.{found_of}
use Rattle.clap.proofs.WalkLemmas.{first_value-rows}
use Rattle.tool_words.proofs.read.choice.Goals as goal

pub returns : goal.returns
returns c = c.get_str.ensures ∙ (first_value-rows (found_of c.args.found.now) c.id.result.now ∙ ap (given c.args.found.now) c.id.ensures)
