-- The words of a line are a power of two.
use Rattle.std.proofs.Common.{◌∙◌, ◌/◌, sym, arith}
use Rattle.cache_array.proofs.Powers.{masked, word_of_line}
use Rattle.cache_array.proofs.address.word_of.Goals as goal

pub returns : goal.returns
returns c = masked (c.args.address / 4) c.args.shape.now.line_words c.requires.line (omega (arith, c.requires.greatest_line)) ∙ sym (word_of_line c.args.address c.args.shape.now.line_words (omega (arith, c.requires.least_line)))
