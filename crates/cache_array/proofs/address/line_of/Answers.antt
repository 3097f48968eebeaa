-- The words of a line are a power of two.
use Rattle.std.proofs.Common.{◌∙◌, ◌/◌, arith}
use Rattle.std.proofs.Math.Nat.{div-div-eq-div-mul}
use Rattle.cache_array.proofs.Powers.{shifted}
use Rattle.cache_array.proofs.address.line_of.Goals as goal

pub returns : goal.returns
returns c = shifted (c.args.address / 4) c.args.shape.now.line_words c.requires.line (omega (arith, c.requires.greatest_line)) ∙ div-div-eq-div-mul c.args.address 4 c.args.shape.now.line_words
